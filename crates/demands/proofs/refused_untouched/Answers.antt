-- `demands::refused_untouched` meets its contract: by `Refused`.
use Rattle.demands.proofs.Refused.{refused_untouched}
use Rattle.demands.proofs.refused_untouched.Goals as goal

pub returns : goal.returns
returns c = refused_untouched
