-- The three demands, and W1, of a list of C calls.
use Rattle.std.specs.Prelude.{◌≡◌, true, List, [], ◌∷◌, ℕ, ◌+◌, ◌≤◌, length}
use Rattle.rules.specs.Profile.{in_range}
use Rattle.ledger.specs.Calls.{ruled, traced}
use Rattle.ledger.specs.Claim.{Holds}
use Rattle.demands.specs.Past.{initially}
use Rattle.demands.specs.Acceptance.{AllRight}
use Rattle.demands.specs.Untouched.{AllUntouched}
use Rattle.address_claims.specs.Addresses.{unreserved}
use Rattle.profile.specs.View.{profile_of}
use Rattle.profile_bytes.specs.ProfileBytes.{profile_at}
use Rattle.state_bytes.specs.StateBytes.{state_size, state_at}
use Rattle.childbus_board.specs.BoardBytes.{fresh_left}
use Rattle.boundary_claims.specs.Calls.{Call, Left, left, lent, calls_of, steps_of}

-- refused by 2 or above: the given state bytes, flash and output, every byte of them
pub record Untouched (state flash out : List ℕ) (l : Left) : Type 0 where
  pub state_is : l.state ≡ state
  pub flash_is : l.flash ≡ flash
  pub out_is : l.out ≡ out

abbrev pub AllRefusedUntouched : List ℕ → List ℕ → List ℕ → List Call → Type 0
AllRefusedUntouched profile state flash [] = Unit
AllRefusedUntouched profile state flash (c ∷ cs) =
    (2 ≤ (left profile state flash c).number → Untouched state flash (lent c) (left profile state flash c))
    × AllRefusedUntouched profile (left profile state flash c).state (left profile state flash c).flash cs

-- W1: after each call the own address that the state bytes say is none of the reserved
abbrev pub AllUnreserved : List ℕ → List ℕ → List ℕ → List Call → Type 0
AllUnreserved profile state flash [] = Unit
AllUnreserved profile state flash (c ∷ cs) =
    (unreserved (profile_at profile).bus (state_at (left profile state flash c).state).address ≡ true)
    × AllUnreserved profile (left profile state flash c).state (left profile state flash c).flash cs

-- the demands of a list of calls on the state bytes and the flash
pub record Met (profile state flash : List ℕ) (cs : List Call) : Type 0 where
  -- what is written down is what the claims speak of: every number, every reply byte, every flash byte
  pub as_ruled : steps_of profile state flash cs ≡ traced ruled (profile_of (profile_at profile)) flash (calls_of cs)
  pub refused : AllRefusedUntouched profile state flash cs
  pub demand1 : AllUntouched (profile_of (profile_at profile)) (initially flash 0) (steps_of profile state flash cs)
  -- where numbers 2 and 3 do not apply
  pub demand2 : in_range (profile_of (profile_at profile)) ≡ true
      → (profile_at profile).offset + (profile_at profile).size ≤ length flash
      → AllRight (profile_of (profile_at profile)) (initially flash 0) (steps_of profile state flash cs)
  pub demand3 : Holds (profile_of (profile_at profile)) flash (steps_of profile state flash cs)
  pub addresses : AllUnreserved profile state flash cs

-- any profile bytes, a buffer with room for a state, any flash, any list of calls after childbus_fresh
abbrev pub BoundaryMeetsDemands : Type 0
BoundaryMeetsDemands =
    (profile buffer flash : List ℕ) (cs : List Call) → state_size ≤ length buffer → Met profile (fresh_left buffer).state flash cs
