-- Calls of the code, `board::receive` and `readout::read`, as they happened, and what an outside observer writes down of them.
use Rattle.std.specs.Prelude.{List, [], ◌∷◌, ℕ, length, take}
use Rattle.rules.specs.Profile as rules
use Rattle.rules.specs.Numbers.{number, made}
use Rattle.rules.specs.Board.{Called, received, read_out}
use Rattle.ledger.specs.Ledger.{Ledger, opened}
use Rattle.ledger.specs.Calls as ledger
use Rattle.ledger.specs.Calls.{Call, Step, fed}
use Rattle.state.specs.declared.State.{State}
use Rattle.state.specs.View.{view}
use Rattle.profile.specs.declared.Profile.{Profile}
use Rattle.profile.specs.View.{profile_of}
use Rattle.answer.specs.declared.Answer.{Answer}
use Rattle.answer.specs.Answered.{Answered}

-- a received frame with the I²C address beside it, or an I²C read at an address
pub data CallInput : Type 0 where
  Receive : ℕ → List ℕ → CallInput
  Read : ℕ → CallInput

-- one call: what was asked, the lent reply buffer before and after it, the answer that the code returned, and the flash that it left
pub record Happened : Type 0 where
  pub input : CallInput
  pub before : List ℕ
  pub after : List ℕ
  pub answer : Answer State
  pub flash : List ℕ

-- what the rules say of it, on the state s and the flash d, with a reply buffer of n bytes
abbrev pub ruled_call : Profile → State → List ℕ → ℕ → CallInput → Called
ruled_call p s d n (Receive a f) = received (profile_of p) (view s) a f d n
ruled_call p s d n (Read a) = read_out (profile_of p) (view s) a d n

-- the call did what the contracts of `board::receive` and `readout::read` both promise, on the state s and the flash d
abbrev pub Promised : Profile → State → List ℕ → Happened → Type 0
Promised p s d h = Answered s h.answer h.flash h.after h.before (ruled_call p s d (length h.before) h.input)

-- calls one after the other: each got the very state and the flash that the last one left
abbrev pub Ran : Profile → State → List ℕ → List Happened → Type 0
Ran p s d [] = Unit
Ran p s d (h ∷ hs) = Promised p s d h × Ran p h.answer.state h.flash hs

abbrev pub call_with : CallInput → ℕ → Call
call_with (Receive a f) n = ledger.Frame a f n
call_with (Read a) n = ledger.Read a n

-- the call that the claims speak of
abbrev pub call_of : Happened → Call
call_of h = call_with h.input (length h.before)

abbrev pub calls_of : List Happened → List Call
calls_of [] = []
calls_of (h ∷ hs) = call_of h ∷ calls_of hs

-- the reply's bytes: as many of the lent buffer as the answer says were made
abbrev pub reply_of : Happened → List ℕ
reply_of h = take (made h.answer.outcome) h.after

-- one call, written down with its ledger
abbrev pub step_of : rules.Profile → Ledger → Happened → Step
step_of p k h = record {
  call = call_of h;
  number = number h.answer.outcome;
  reply = reply_of h;
  count = h.answer.state.upload.count;
  flash = h.flash;
  ledger = fed p k (call_of h) (number h.answer.outcome) (reply_of h);
}

abbrev pub steps_from : rules.Profile → Ledger → List Happened → List Step
steps_from p k [] = []
steps_from p k (h ∷ hs) = step_of p k h ∷ steps_from p (step_of p k h).ledger hs

-- the steps of a whole list, whose flash was d at first
abbrev pub steps_of : Profile → List ℕ → List Happened → List Step
steps_of p d hs = steps_from (profile_of p) (opened d) hs
