-- `upload_ends::page_of` meets its contract: a page without bytes or past the end is empty; any other begins within the bytes.
use Rattle.std.proofs.Common.{sym, ap, ◌∙◌, ℕ, ◌*◌, ◌/◌, ◌≤◌, ◌<◌, arith, mod-lt, div-add-mod', suc-mul, mul-le-mul_right, le-div_iff_mul-le, length, take, drop_of_length-le, rules}
use lib.Seq.{take-nil}
use Rattle.upload_ends.proofs.page_of.Goals as goal

-- a page that begins past the end
page_past : (page n k : ℕ) → 0 < page → n / page < k → n ≤ k * page
page_past page n k pos past =
    omega (arith, div-add-mod' n page, mod-lt n pos, suc-mul (n / page) page, mul-le-mul_right page past)

pub returns-then-bytes-page : goal.returns-then-bytes-page
returns-then-bytes-page c =
    let past = page_past c.args.page (length c.args.bytes.now) c.args.k (omega arith) c.if-bytes-page.true in
    sym (ap (take c.args.page) (drop_of_length-le c.args.bytes.now past) ∙ take-nil c.args.page)

pub overflow_mul-k : goal.overflow_mul-k
overflow_mul-k c =
    let pos : 0 < c.args.page = omega arith in
    let begins = (le-div_iff_mul-le {y = length c.args.bytes.now} pos).0 c.if-bytes-page.false in
    search rules
