-- `general_calls::write_general` meets its contract: the form's own bytes are stored at the front.
use Rattle.std.proofs.Common.{◌≡◌, sym, ◌∙◌, take, length}
use Rattle.laws.proofs.LaidLaws.{overlay-first}
use Rattle.general_calls.specs.Forms.{general_frame}
use Rattle.general_calls.proofs.Laws.{length_general}
use Rattle.general_calls.proofs.write_general.Goals as goal

pub slice_bounds-store-end : goal.slice_bounds-store-end
slice_bounds-store-end c =
    let n = c.general_length-n.ensures in
    n ∙ sym (length_general c.args.bus c.args.call) ∙ rw n (rw c.form-bytes.ensures)

pub returns : goal.returns
returns c =
    let n : c.general_length-n.result ≡ length (general_frame c.args.bus c.args.call) =
    c.general_length-n.ensures ∙ sym (length_general c.args.bus c.args.call) in
    let front : take c.general_length-n.result c.form-bytes.result ≡ general_frame c.args.bus c.args.call =
    rw c.general_length-n.ensures c.form-bytes.ensures in
    (n, rw front at (c.store.ensures ∙ overlay-first _ _))
