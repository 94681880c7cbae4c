-- What the answer of childbus_silence tells of the call that childbus_receive made.
use Rattle.std.specs.Prelude.{◌≡◌, not, List, ℕ, eqb}
use Rattle.rules.specs.Board.{Called, received}
use Rattle.state.specs.View.{view}
use Rattle.profile.specs.View.{profile_of}
use Rattle.profile_bytes.specs.ProfileBytes.{profile_at}
use Rattle.state_bytes.specs.StateBytes.{state_at}
use Rattle.childbus_alarms.specs.Silence.{silent, silence_number}

-- the call that the bytes say, with so many bytes for the reply
abbrev pub called : List ℕ → List ℕ → ℕ → List ℕ → List ℕ → ℕ → Called
called profile state address frame flash room =
    received (profile_of (profile_at profile)) (view (state_at state)) address frame flash room

-- its silence
abbrev pub silence_after : List ℕ → List ℕ → ℕ → List ℕ → List ℕ → ℕ → ℕ
silence_after profile state address frame flash room =
    silence_number profile state address frame (called profile state address frame flash room).number

pub record SilenceTold : Type 0 where
  -- each silence has its reason, and nothing else has one
  pub told : (profile state : List ℕ) (address : ℕ) (frame flash : List ℕ) (room : ℕ)
      → not (eqb (silence_after profile state address frame flash room) 0)
      ≡ silent (called profile state address frame flash room).number
