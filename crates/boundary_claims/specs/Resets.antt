-- W4 of the C boundary: what childbus_reset_running wrote, given to childbus_receive.
use Rattle.std.specs.Prelude.{◌≡◌, List, ℕ, ◌<◌, take}
use Rattle.rules.specs.State.{fresh}
use Rattle.roundtrip.specs.Sending.{Beside}
use Rattle.state.specs.View.{view}
use Rattle.profile_bytes.specs.ProfileBytes.{bus_of, profile_at}
use Rattle.state_bytes.specs.StateBytes.{state_at}
use Rattle.childbus_board.specs.BoardBytes.{ReceivedLeft, received_left}
use Rattle.childbus_requests.specs.RequestBytes.{reset_left}

-- no reply; the state bytes say the fresh state; flash and output are as before
pub record BoardFresh (flash out : List ℕ) (l : ReceivedLeft) : Type 0 where
  pub number_is : l.number ≡ 1
  pub made_is : l.made ≡ 0
  pub state_is : view (state_at l.state) ≡ fresh
  pub flash_is : l.flash ≡ flash
  pub out_is : l.out ≡ out

-- the bytes that it says were made, sent as a general call to a board of that bus, whatever its bytes, that is refused by none of 2 to 5
abbrev pub BoundaryResets : Type 0
BoundaryResets =
    (bus longest major minor : ℕ) (room profile state flash out : List ℕ) (a : ℕ) → (reset_left bus longest major minor room).number ≡ 0
    → (profile_at profile).bus ≡ bus_of bus → Beside (bus_of bus) a 0
    → let request : List ℕ = take (reset_left bus longest major minor room).made (reset_left bus longest major minor room).out in
    (received_left profile state a request flash out).number < 2
    → BoardFresh flash out (received_left profile state a request flash out)
