-- Numbers of bytes and pages: where a byte ends its page, how many pages there are then, and where uncommitted bytes of one page begin.
use mathlib.Core.Path.{◌≡◌, ap}
use Prim.Native.Nat.{ℕ, ◌+◌, ◌-◌, ◌/◌, ◌%◌, ◌<◌, ◌≤◌}
use native.Mathlib.Omega.{arith}
use native.Mathlib.Nat.{div-add-mod', mod-lt, le-div_iff_mul-le, div-eq_of_eq-mul_left}
use lib.Dec.{ltb}
use borrow.Author.Tests.{ltb-true, ltb-false}
use Rattle.laws.proofs.CommitLaws.{suc-mod_below}
use Rattle.laws.proofs.TestLaws.{by_test}
use Rattle.laws.proofs.UploadLaws.{sub-mod}

-- a byte after which the number of bytes is a multiple of the page ends its page
pub page_ends : (page n : ℕ) → 0 < page → (n + 1) % page ≡ 0 → n % page + 1 ≡ page
page_ends page n pos e =
    by_test (ltb (n % page + 1) page)
    (λ h. absurd (omega (arith, suc-mod_below page n (ltb-true _ _ h))))
    (λ h. omega (arith, ltb-false, mod-lt n pos))

-- pages do not get fewer, and there is one more where a byte ends its page

pub div-suc-le : (page n : ℕ) → 0 < page → n / page ≤ (n + 1) / page
div-suc-le page n pos = (le-div_iff_mul-le pos).1 (omega (arith, div-add-mod' n page))

pub div-suc_end : (page n : ℕ) → 0 < page → (n + 1) % page ≡ 0 → (n + 1) / page ≡ n / page + 1
div-suc_end page n pos e = div-eq_of_eq-mul_left pos (omega (arith, div-add-mod' n page, page_ends page n pos e))

-- the place in its page of the first of some bytes of one page, and those bytes with it
pub mod-add-sub : (page n c : ℕ) → 0 < page → c ≤ n → n - c ≤ n % page → c % page + (n - c) ≡ n % page
mod-add-sub page n c pos le h =
    let back : n - (n - c) ≡ c = omega arith in
    omega (arith, ap (λ (m : ℕ). m % page) back, sub-mod page n (n - c) pos h)
