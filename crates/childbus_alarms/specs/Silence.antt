-- childbus_silence: why a received frame got no reply, for any bytes of any length.
use Rattle.std.specs.Prelude.{Bool, cond, ◌&&◌, ◌||◌, List, ℕ, eqb, leb}
use Rattle.rules.specs.declared.kinds.Reason.{Reason}
use Rattle.rules.specs.declared.kinds.Reason.TheVariants.{Running, Short, Long, WrongSum, Foreign, OtherGeneral}
use Rattle.rules.specs.declared.kinds.Verdict.{Verdict}
use Rattle.rules.specs.declared.kinds.Verdict.TheVariants.{Reset, ResetAddress, Ignored, BadTransfer, BadSum, Command}
use Rattle.rules.specs.Frames.{verdict, command_of}
use Rattle.profile_bytes.specs.ProfileBytes.{profile_at}
use Rattle.state_bytes.specs.StateBytes.{state_at}

-- the numbers of a call that sent nothing and was not refused: 1, and 15 to 18
abbrev pub silent : ℕ → Bool
silent number = eqb number 1 || (leb 15 number && leb number 18)

-- why a frame is ignored
abbrev pub ignored_silence : Reason → ℕ
ignored_silence Running = 1
ignored_silence Short = 2
ignored_silence Long = 3
ignored_silence WrongSum = 4
ignored_silence (Foreign bus) = 5
ignored_silence OtherGeneral = 6

-- why a command has no reply: set address for another type, and start
abbrev pub command_silence : ℕ → ℕ
command_silence command = cond (eqb command 0x01) 7 (cond (eqb command 0x05) 9 0)

-- why a frame with this verdict and command has no reply; 0 where it has one
abbrev pub silence_of : Verdict → ℕ → ℕ
silence_of Reset command = 8
silence_of ResetAddress command = 8
silence_of (Ignored reason) command = ignored_silence reason
silence_of BadTransfer command = 0
silence_of BadSum command = 0
silence_of Command command = command_silence command

-- what the frame is to the board that the bytes say
abbrev pub verdict_at : List ℕ → List ℕ → ℕ → List ℕ → Verdict
verdict_at profile state address frame =
    verdict (profile_at profile).bus (profile_at profile).longest (state_at state).running (state_at state).address address frame

-- 0 for a number that is no silence
unfoldable pub silence_number : List ℕ → List ℕ → ℕ → List ℕ → ℕ → ℕ
silence_number profile state address frame number =
    cond (silent number) (silence_of (verdict_at profile state address frame) (command_of (profile_at profile).bus frame)) 0
