-- `general_calls::is_general` meets its contract: on I²C the address stands beside the frame, on RS485 in its form.
use Rattle.std.proofs.Common.{◌∙◌}
use Rattle.general_calls.proofs.Laws.{same_general}
use Rattle.general_calls.proofs.is_general.Goals as goal

pub returns-in-Rs485 : goal.returns-in-Rs485
returns-in-Rs485 c =
    let told = c.in-Rs485.is in
    rw told ((rw told at c.has_form-in-Rs485.ensures) ∙ same_general _ c.args.call)
