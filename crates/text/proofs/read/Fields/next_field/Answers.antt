-- `text::read::Fields::next_field` meets its contract: the part that is lent is the field.
use Rattle.text.proofs.ReadLaws.{field_found}
use Rattle.text.proofs.read.Fields.next_field.Goals as goal

pub returns-clause-field : goal.returns-clause-field
returns-clause-field c =
    let rest = c.in_ok-rest.ensures.lookup.0 in
    field_found c.args.self.now.line.now _ c.args.self.now.at _ rest.0 rest.2 c.field_len-len.ensures.value
