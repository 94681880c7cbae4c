-- `text::read::Fields::number` meets its contract: past the end of the line there is no field, and no number.
use Rattle.std.proofs.Common.{sym}
use Rattle.text.proofs.ReadLaws.{field_none}
use Rattle.text.proofs.read.Fields.number.Goals as goal

pub returns-in_err-next_field-clause-value : goal.returns-in_err-next_field-clause-value
returns-in_err-next_field-clause-value c =
    let none = field_none c.args.self.now.line.now c.args.self.now.at (sym c.in_err-next_field.ensures.field) in
    rw none c.from_residual.ensures
