-- The two board calls: a received frame and an I²C read. Total over any profile, state, address, frame, flash and buffer length.
use Rattle.std.specs.Prelude.{Bool, false, cond, not, ◌&&◌, List, [], ℕ, eqb, length}
use Rattle.rules.specs.declared.kinds.Bus.{Bus}
use Rattle.rules.specs.declared.kinds.Bus.TheVariants.{I2c, Rs485}
use Rattle.rules.specs.declared.kinds.Address.TheVariants.{DefaultRange}
use Rattle.rules.specs.declared.kinds.Verdict.{Verdict}
use Rattle.rules.specs.declared.kinds.Verdict.TheVariants.{Reset, ResetAddress, Ignored, BadTransfer, BadSum, Command}
use Rattle.rules.specs.Profile.{Profile}
use Rattle.rules.specs.State.{State, fresh, with_address, with_last}
use Rattle.rules.specs.Numbers.{ignored_number, refusal}
use Rattle.rules.specs.Frames.{reply, destination, addressed, verdict, command_of, arguments_of}
use Rattle.rules.specs.Responses.{Response, Reply, NoReply, Acted, replying, invalid_transfer, invalid_crc}
use Rattle.rules.specs.Commands.{executed}

-- what a board call answers and leaves: its number, the reply's bytes (none unless the number is 0), the state and the flash
pub record Called : Type 0 where
  pub number : ℕ
  pub reply : List ℕ
  pub state : State
  pub flash : List ℕ

-- nothing to send
abbrev pub nothing : State → List ℕ → Called
nothing s d = record { number = 1; reply = []; state = s; flash = d }

-- the state after a reply: only I²C keeps it
abbrev pub with_reply : Bus → State → List ℕ → State
with_reply I2c s r = with_last s r
with_reply Rs485 s r = with_last s []

-- after a write to this board its reply is the last reply; after one without reply there is none
abbrev pub replied : Bus → ℕ → Response → State → List ℕ → Called
replied bus address (Reply status results) s d =
    record { number = 0; reply = reply bus address status results; state = with_reply bus s (reply bus address status results); flash = d }
replied bus address NoReply s d = nothing (with_reply bus s []) d

-- what a command did, as an answer to its sender
abbrev pub finished_call : Bus → ℕ → Acted → Called
finished_call bus address a = replied bus address a.response a.state a.flash

-- default range again, last reply none, upload kept
abbrev pub address_reset : State → State
address_reset s = with_last (with_address s DefaultRange) []

-- a number alone, all untouched: a refusal, or an ignored frame
abbrev pub refused : ℕ → State → List ℕ → Called
refused n s d = record { number = n; reply = []; state = s; flash = d }

-- a frame by its verdict; W3: an ignored one leaves all untouched, its number says why
unfoldable pub handled : Profile → State → ℕ → List ℕ → List ℕ → Verdict → Called
handled p s a f d Reset = nothing fresh d
handled p s a f d ResetAddress = nothing (address_reset s) d
handled p s a f d (Ignored reason) = refused (ignored_number reason) s d
handled p s a f d BadTransfer = finished_call p.bus (destination p.bus a f) (replying s d invalid_transfer [])
handled p s a f d BadSum = finished_call p.bus (destination p.bus a f) (replying s d invalid_crc [])
handled p s a f d Command =
    finished_call p.bus (destination p.bus a f) (executed p s (command_of p.bus f) (arguments_of p.bus f) d)

-- a received frame; the I²C address stands beside it, RS485 does not look at it
unfoldable pub received : Profile → State → ℕ → List ℕ → List ℕ → ℕ → Called
received p s a f d bufferLength =
    cond (eqb (refusal p s (length d) bufferLength) 0)
    (handled p s a f d (verdict p.bus p.longest s.running s.address a f))
    (refused (refusal p s (length d) bufferLength) s d)

-- this address gets a last reply: there is one and the board is addressed (never by 0), not on RS485 and not while running
abbrev pub read_answered : Bus → State → ℕ → Bool
read_answered I2c s a = not s.running && (addressed I2c s.address a && not (eqb (length s.last) 0))
read_answered Rs485 s a = false

-- an I²C read hands out the last reply and keeps it as it is
unfoldable pub read_out : Profile → State → ℕ → List ℕ → ℕ → Called
read_out p s a d bufferLength =
    cond (eqb (refusal p s (length d) bufferLength) 0)
    (cond (read_answered p.bus s a) (record { number = 0; reply = s.last; state = s; flash = d }) (nothing s d))
    (refused (refusal p s (length d) bufferLength) s d)
