-- W8 of the C boundary: state bytes that are handed to childbus_receive, whatever page they were made under.
use Rattle.std.specs.Prelude.{◌≡◌, true, false, List, [], ℕ, ◌+◌, ◌≤◌, length}
use Rattle.rules.specs.Profile.{in_range}
use Rattle.rules.specs.State.{well_formed}
use Rattle.rules.specs.Numbers.{refusal}
use Rattle.rules.specs.Frames.{command_of, arguments_of}
use Rattle.demands.specs.Past.{past_of, well_framed}
use Rattle.page_claims.specs.Pages.{Laid}
use Rattle.state.specs.View.{view}
use Rattle.profile.specs.View.{profile_of}
use Rattle.profile_bytes.specs.ProfileBytes.{profile_at}
use Rattle.state_bytes.specs.StateBytes.{state_at}
use Rattle.childbus_board.specs.BoardBytes.{received_left}

pub record BoundaryHandedIn : Type 0 where
  -- malformed under the profile's page: number 4, and every byte of the buffers is as it was
  pub malformed :
      (profile state : List ℕ) (a : ℕ) (frame flash out : List ℕ) → in_range (profile_of (profile_at profile)) ≡ true
      → (profile_at profile).offset + (profile_at profile).size ≤ length flash
      → well_formed (profile_of (profile_at profile)) (view (state_at state)) ≡ false
      → received_left profile state a frame flash out ≡ record { number = 4; made = 0; state = state; flash = flash; out = out }
  -- well formed: a finalize is answered, and lays the waiting bytes at their own places
  pub finalized :
      (profile state : List ℕ) (a : ℕ) (frame flash out : List ℕ)
      → refusal (profile_of (profile_at profile)) (view (state_at state)) (length flash) (length out) ≡ 0
      → well_framed (profile_of (profile_at profile)) (past_of (view (state_at state))) a frame ≡ true
      → command_of (profile_at profile).bus frame ≡ 0x07 → arguments_of (profile_at profile).bus frame ≡ []
      → ((received_left profile state a frame flash out).number ≡ 0)
      × Laid (profile_of (profile_at profile)) (view (state_at state)).upload flash
      (view (state_at (received_left profile state a frame flash out).state)).upload (received_left profile state a frame flash out).flash
