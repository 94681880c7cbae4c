-- What a call leaves in the state buffer, by `KeptLaws`.
use Rattle.childbus_board.proofs.KeptLaws.{fresh_says, kept_says, kept_rest, refused_says}
use Rattle.childbus_board.proofs.state_kept.Goals as goal

pub returns : goal.returns
returns c = record { fresh = fresh_says; received = kept_says; rest = kept_rest; refused = refused_says }
