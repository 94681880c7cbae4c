-- Calls of the C boundary, one after the other: each gets the state bytes and the flash that the last one left.
use Rattle.std.specs.Prelude.{List, [], ◌∷◌, ℕ, length, take}
use Rattle.rules.specs.Profile as rules
use Rattle.ledger.specs.Ledger.{Ledger, opened}
use Rattle.ledger.specs.Calls as ledger
use Rattle.ledger.specs.Calls.{Step, fed}
use Rattle.state.specs.View.{view}
use Rattle.profile.specs.View.{profile_of}
use Rattle.profile_bytes.specs.ProfileBytes.{profile_at}
use Rattle.state_bytes.specs.StateBytes.{state_at}
use Rattle.childbus_board.specs.BoardBytes.{received_left, read_left}

-- childbus_receive with an address, a frame and a lent output; childbus_read with an address and a lent output
pub data Call : Type 0 where
  Receive : ℕ → List ℕ → List ℕ → Call
  Read : ℕ → List ℕ → Call

-- what a call answers and leaves
pub record Left : Type 0 where
  pub number : ℕ
  pub made : ℕ
  pub out : List ℕ
  pub state : List ℕ
  pub flash : List ℕ

-- with profile bytes, on state bytes and flash; a read only reads them
unfoldable pub left : List ℕ → List ℕ → List ℕ → Call → Left
left profile state flash (Receive a f out) = record {
  number = (received_left profile state a f flash out).number;
  made = (received_left profile state a f flash out).made;
  out = (received_left profile state a f flash out).out;
  state = (received_left profile state a f flash out).state;
  flash = (received_left profile state a f flash out).flash;
}
left profile state flash (Read a out) = record {
  number = (read_left profile state a flash out).number;
  made = (read_left profile state a flash out).made;
  out = (read_left profile state a flash out).out;
  state = state;
  flash = flash;
}

-- the call that the claims speak of, and its lent output
abbrev pub call_of : Call → ledger.Call
call_of (Receive a f out) = ledger.Frame a f (length out)
call_of (Read a out) = ledger.Read a (length out)

abbrev pub lent : Call → List ℕ
lent (Receive a f out) = out
lent (Read a out) = out

abbrev pub calls_of : List Call → List ledger.Call
calls_of [] = []
calls_of (c ∷ cs) = call_of c ∷ calls_of cs

-- one call, written down with its ledger: its reply is the first bytes of the output, its count is read from the state bytes
abbrev pub step_of : rules.Profile → Ledger → Call → Left → Step
step_of p k c l = record {
  call = call_of c;
  number = l.number;
  reply = take l.made l.out;
  count = (view (state_at l.state)).upload.count;
  flash = l.flash;
  ledger = fed p k (call_of c) l.number (take l.made l.out);
}

-- the steps of a list from state bytes and a flash
unfoldable pub steps_from : List ℕ → List ℕ → List ℕ → Ledger → List Call → List Step
steps_from profile state flash k [] = []
steps_from profile state flash k (c ∷ cs) =
    let l : Left = left profile state flash c in
    let s : Step = step_of (profile_of (profile_at profile)) k c l in
    s ∷ steps_from profile l.state l.flash s.ledger cs

abbrev pub steps_of : List ℕ → List ℕ → List ℕ → List Call → List Step
steps_of profile state flash cs = steps_from profile state flash (opened flash) cs
