-- `general_calls::has_form` meets its contract: it compares with the form's own bytes.
use Rattle.std.proofs.Common.{◌≡◌, sym, ◌∙◌, arith, length, rules}
use Rattle.general_calls.proofs.Laws.{general_length-le, length_general}
use Rattle.general_calls.proofs.has_form.Goals as goal

pub slice_bounds-bytes-end : goal.slice_bounds-bytes-end
slice_bounds-bytes-end c =
    let four : length c.form-bytes.result ≡ 4 = search rules in
    omega (arith, c.general_length-n.ensures, general_length-le c.args.bus)

pub slice_bounds-matches-end : goal.slice_bounds-matches-end
slice_bounds-matches-end c =
    let n = c.general_length-n.ensures in
    n ∙ sym (length_general c.args.bus c.args.call) ∙ rw n (rw c.form-bytes.ensures)

pub returns : goal.returns
returns c = rw (c.general_length-n.ensures, c.form-bytes.ensures) at c.matches.ensures
