-- The reset of the C boundary: the bytes that were made are the rules', and the state bytes afterwards say the rules' state (`kept_says`).
use mathlib.Core.Path.{◌≡◌, refl, sym, ap, subst, ◌∙◌}
use mathlib.Core.Bool.{Bool, true, false, cond}
use mathlib.Core.List.{List}
use Prim.Native.Nat.{ℕ, ◌<◌}
use native.Mathlib.Omega.{arith}
use lib.Dec.{ltb}
use lib.ListN.{length, take}
use Rattle.rules.specs.State.{fresh}
use Rattle.rules.specs.Board.{Called, nothing, received}
use Rattle.rules.specs.Master.{Encoding, unmade, running_reset}
use Rattle.laws.proofs.LaidLaws.{take-laid}
use Rattle.roundtrip.specs.Sending.{Beside}
use Rattle.state.specs.View.{view}
use Rattle.profile.specs.View.{profile_of}
use Rattle.profile_bytes.specs.ProfileBytes.{bus_of, profile_at}
use Rattle.state_bytes.specs.StateBytes.{state_at}
use Rattle.childbus_board.specs.BoardBytes.{ReceivedLeft, received_by, received_left}
use Rattle.childbus_board.proofs.KeptLaws.{kept_says}
use Rattle.childbus_requests.specs.RequestBytes.{EncodedLeft, encoded_by, reset_left}
use Rattle.reset_claims.specs.Running.{ResetInput, Written, reset_bytes}
use Rattle.reset_claims.proofs.Resets.{unrefused, received_reset}
use Rattle.boundary_claims.specs.Resets.{BoardFresh, BoundaryResets}

-- on a bus that there is
there : (over : Bool) (e : Encoding) → (cond over (unmade 2) e).number ≡ 0 → cond over (unmade 2) e ≡ e
there true e zero = absurd (omega (arith, zero))
there false e zero = refl

module _ (bus longest major minor : ℕ) (room : List ℕ) (zero : (reset_left bus longest major minor room).number ≡ 0) where
  abbrev q : ResetInput
  q = record { bus = bus_of bus; longest = longest; major = major; minor = minor; room = length room }

  left_is : reset_left bus longest major minor room ≡ encoded_by (running_reset (bus_of bus) longest major minor (length room)) room
  unfolding reset_left
  left_is = ap (λ (e : Encoding). encoded_by e room) (there (ltb 1 bus) (running_reset (bus_of bus) longest major minor (length room)) zero)

  written : Written q
  written = sym (ap (λ (l : EncodedLeft). l.number) left_is) ∙ zero

  request_is : take (reset_left bus longest major minor room).made (reset_left bus longest major minor room).out ≡ reset_bytes q
  request_is = rw left_is (take-laid (reset_bytes q) room _ refl)

  module _ (profile state flash out : List ℕ) (a : ℕ) (same-bus : (profile_at profile).bus ≡ bus_of bus) (general : Beside (bus_of bus) a 0)
      (few : (received_left profile state a (reset_bytes q) flash out).number < 2) where
    abbrev call : Called
    call = received (profile_of (profile_at profile)) (view (state_at state)) a (reset_bytes q) flash (length out)

    call_few : call.number < 2
    unfolding received_left
    call_few = few

    call_is : call ≡ nothing fresh flash
    call_is =
        received_reset q (profile_of (profile_at profile)) (view (state_at state)) flash a (length out) written same-bus general
        (unrefused (profile_of (profile_at profile)) (view (state_at state)) a (reset_bytes q) flash (length out) call_few)

    received_is : received_left profile state a (reset_bytes q) flash out ≡ received_by (nothing fresh flash) state out
    unfolding received_left
    received_is = ap (λ (c : Called). received_by c state out) call_is

    board-fresh : BoardFresh flash out (received_left profile state a (reset_bytes q) flash out)
    board-fresh = record {
      number_is = ap (λ (l : ReceivedLeft). l.number) received_is;
      made_is = ap (λ (l : ReceivedLeft). l.made) received_is;
      state_is = kept_says profile state a (reset_bytes q) flash out few ∙ ap (λ (c : Called). c.state) call_is;
      flash_is = ap (λ (l : ReceivedLeft). l.flash) received_is;
      out_is = ap (λ (l : ReceivedLeft). l.out) received_is;
    }

pub boundary_resets : BoundaryResets
boundary_resets bus longest major minor room profile state flash out a zero same-bus general =
    subst
    (λ (f : List ℕ).
    (received_left profile state a f flash out).number < 2 → BoardFresh flash out (received_left profile state a f flash out))
    (sym (request_is bus longest major minor room zero))
    (board-fresh bus longest major minor room zero profile state flash out a same-bus general)
