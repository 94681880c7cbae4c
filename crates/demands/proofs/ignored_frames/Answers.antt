-- `demands::ignored_frames` meets its contract: by `Ignored`.
use Rattle.demands.proofs.Ignored.{ignored_frames}
use Rattle.demands.proofs.ignored_frames.Goals as goal

pub returns : goal.returns
returns c = ignored_frames
