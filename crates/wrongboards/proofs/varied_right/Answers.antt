-- `wrongboards::varied_right` meets its contract: by the law of the same name.
use Rattle.wrongboards.proofs.VariationLaws.{varied_right}
use Rattle.wrongboards.proofs.varied_right.Goals as goal

pub returns : goal.returns
returns c = varied_right
