-- A refused C call leaves every byte: of the state by `refused_says`, of flash and output by the rules (`refused_untouched`).
use mathlib.Core.Path.{refl, ap}
use mathlib.Core.List.{List, [], ◌∷◌}
use Prim.Native.Nat.{ℕ, ◌≤◌}
use lib.ListN.{length}
use Rattle.rules.specs.Numbers.{laid}
use Rattle.rules.specs.Board.{Called}
use Rattle.demands.proofs.Refused.{refused_untouched}
use Rattle.state.specs.View.{view}
use Rattle.profile.specs.View.{profile_of}
use Rattle.profile_bytes.specs.ProfileBytes.{profile_at}
use Rattle.state_bytes.specs.StateBytes.{state_at}
use Rattle.childbus_board.specs.BoardBytes.{received_left, read_left}
use Rattle.childbus_board.proofs.KeptLaws.{refused_says}
use Rattle.boundary_claims.specs.Calls.{Call, Receive, Read, left, lent}
use Rattle.boundary_claims.specs.Met.{Untouched, AllRefusedUntouched}

call-refused : (profile state flash : List ℕ) (c : Call) → 2 ≤ (left profile state flash c).number
    → Untouched state flash (lent c) (left profile state flash c)
unfolding left received_left read_left
call-refused profile state flash (Receive a f out) two =
    let all = (refused_untouched (profile_of (profile_at profile)) (view (state_at state)) a f flash (length out)).0 two in
    record {
      state_is = refused_says profile state a f flash out two;
      flash_is = ap (λ (c : Called). c.flash) all;
      out_is = ap (λ (c : Called). laid c.reply out) all;
    }
call-refused profile state flash (Read a out) two =
    let all = (refused_untouched (profile_of (profile_at profile)) (view (state_at state)) a [] flash (length out)).1 two in
    record { state_is = refl; flash_is = refl; out_is = ap (λ (c : Called). laid c.reply out) all }

pub all-refused : (profile state flash : List ℕ) (cs : List Call) → AllRefusedUntouched profile state flash cs
all-refused profile state flash [] = tt
all-refused profile state flash (c ∷ cs) =
    (call-refused profile state flash c, all-refused profile (left profile state flash c).state (left profile state flash c).flash cs)
