-- `text::read::field_len` meets its contract: the place of the first space is how many bytes stand before it.
use Rattle.std.proofs.Common.{◌∙◌, ap}
use Rattle.std.specs.Prelude.{length}
use Rattle.std.specs.Option.{unwrap_or}
use Rattle.text.specs.Read.{space}
use Rattle.text.proofs.ReadLaws.{unwrap_position, len-before}
use Rattle.text.proofs.read.field_len.Goals as goal

pub returns-clause-value : goal.returns-clause-value
returns-clause-value c =
    c.unwrap_or.ensures ∙ ap (λ o. unwrap_or o (length c.args.s.now)) c.first_space.ensures ∙ unwrap_position _ c.args.s.now
    ∙ len-before space c.args.s.now
