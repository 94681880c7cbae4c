-- `text::read::Fields::hex` meets its contract: past the end of the line there is no field, and no byte string.
use Rattle.std.proofs.Common.{sym}
use Rattle.text.proofs.ReadLaws.{field_none, no_bytes, within_none}
use Rattle.text.proofs.read.Fields.hex.Goals as goal

pub returns-in_err-next_field-clause-read : goal.returns-in_err-next_field-clause-read
returns-in_err-next_field-clause-read c =
    let none = field_none c.args.self.now.line.now c.args.self.now.at (sym c.in_err-next_field.ensures.field) in
    let result = c.from_residual.ensures in
    record { read = no_bytes _ _ _ none result; within = within_none _ _ result }
