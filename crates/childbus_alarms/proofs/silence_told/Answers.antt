-- Each silence has its reason, by `received_told`.
use Rattle.childbus_alarms.specs.Silence.{silence_number}
use Rattle.childbus_alarms.proofs.ToldLaws.{received_told}
use Rattle.childbus_alarms.proofs.silence_told.Goals as goal

pub returns : goal.returns
unfolding silence_number
returns c = record { told = λ p s a f d n. received_told _ _ a f d n }
