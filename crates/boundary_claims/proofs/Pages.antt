-- State bytes handed in: the call is the rules' on the state that they say, and the bytes afterwards say the rules' state (`kept_says`).
use mathlib.Core.Path.{◌≡◌, sym, ap, subst}
use mathlib.Core.Bool.{true, false}
use mathlib.Core.List.{List, []}
use Prim.Native.Nat.{ℕ, ◌+◌, ◌≤◌, ◌<◌}
use native.Mathlib.Omega.{arith}
use lib.ListN.{length}
use Rattle.rules.specs.Profile.{in_range}
use Rattle.rules.specs.State as rules
use Rattle.rules.specs.State.{well_formed}
use Rattle.rules.specs.Numbers.{refusal}
use Rattle.rules.specs.Frames.{command_of, arguments_of}
use Rattle.rules.specs.Board.{Called}
use Rattle.demands.specs.Past.{past_of, well_framed}
use Rattle.page_claims.specs.Pages.{Laid}
use Rattle.page_claims.proofs.HandedIn.{refused_malformed, laid}
use Rattle.state.specs.View.{view}
use Rattle.profile.specs.View.{profile_of}
use Rattle.profile_bytes.specs.ProfileBytes.{profile_at}
use Rattle.state_bytes.specs.StateBytes.{state_at}
use Rattle.childbus_board.specs.BoardBytes.{received_by, received_left}
use Rattle.childbus_board.proofs.KeptLaws.{kept_says}
use Rattle.boundary_claims.specs.Pages.{BoundaryHandedIn}

malformed : (profile state : List ℕ) (a : ℕ) (frame flash out : List ℕ) → in_range (profile_of (profile_at profile)) ≡ true
    → (profile_at profile).offset + (profile_at profile).size ≤ length flash
    → well_formed (profile_of (profile_at profile)) (view (state_at state)) ≡ false
    → received_left profile state a frame flash out ≡ record { number = 4; made = 0; state = state; flash = flash; out = out }
unfolding received_left
malformed profile state a frame flash out range room bad =
    ap (λ (c : Called). received_by c state out)
    ((refused_malformed (profile_of (profile_at profile)) (view (state_at state)) flash range room bad).0 a frame (length out))

finalized : (profile state : List ℕ) (a : ℕ) (frame flash out : List ℕ)
    → refusal (profile_of (profile_at profile)) (view (state_at state)) (length flash) (length out) ≡ 0
    → well_framed (profile_of (profile_at profile)) (past_of (view (state_at state))) a frame ≡ true
    → command_of (profile_at profile).bus frame ≡ 0x07 → arguments_of (profile_at profile).bus frame ≡ []
    → ((received_left profile state a frame flash out).number ≡ 0)
    × Laid (profile_of (profile_at profile)) (view (state_at state)).upload flash
    (view (state_at (received_left profile state a frame flash out).state)).upload (received_left profile state a frame flash out).flash
unfolding received_left
finalized profile state a frame flash out e heard is none =
    let right = laid (profile_of (profile_at profile)) (view (state_at state)) flash a frame (length out) e heard is none in
    let few : (received_left profile state a frame flash out).number < 2 = rw right.0 (omega arith) in
    let uploads : rules.State → Type 0 =
    λ (s : rules.State). Laid (profile_of (profile_at profile)) (view (state_at state)).upload flash s.upload
    (received_left profile state a frame flash out).flash in
    (right.0, subst uploads (sym (kept_says profile state a frame flash out few)) right.1)

pub boundary_handed_in : BoundaryHandedIn
boundary_handed_in = record { malformed = malformed; finalized = finalized }
