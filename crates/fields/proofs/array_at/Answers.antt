-- `fields::array_at` meets its contract: the part is laid over all of an array as long.
use Rattle.std.proofs.Common.{arith}
use Rattle.std.proofs.lemmas.Grind.{common_steps}
use Rattle.laws.proofs.BytesLaws.{overlay-all}
use Rattle.fields.proofs.array_at.Goals as goal

pub returns : goal.returns
returns g c = grind (arith, common_steps, overlay-all)
