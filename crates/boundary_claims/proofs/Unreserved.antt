-- No C call brings the state bytes to a reserved address: they say what the rules' board keeps (`Followed`), and that one never comes to
-- one (`calls_leave`).
use mathlib.Core.Path.{◌≡◌, ap, ◌∙◌}
use mathlib.Core.Bool.{true}
use mathlib.Core.List.{List, [], ◌∷◌}
use Prim.Native.Nat.{ℕ}
use Rattle.rules.specs.State as states
use Rattle.address_claims.specs.Addresses.{unreserved}
use Rattle.address_claims.proofs.Unreserved.{calls_leave}
use Rattle.state.specs.View.{view}
use Rattle.profile.specs.View.{profile_of}
use Rattle.profile_bytes.specs.ProfileBytes.{profile_at}
use Rattle.state_bytes.specs.StateBytes.{state_at}
use Rattle.boundary_claims.specs.Calls.{Call, left, call_of}
use Rattle.boundary_claims.specs.Met.{AllUnreserved}
use Rattle.boundary_claims.proofs.Followed.{state_ruled}

pub all-unreserved : (profile state flash : List ℕ) (cs : List Call)
    → unreserved (profile_at profile).bus (state_at state).address ≡ true → AllUnreserved profile state flash cs
all-unreserved profile state flash [] kept = tt
all-unreserved profile state flash (c ∷ cs) kept =
    let same = ap (λ (x : states.State). unreserved (profile_at profile).bus x.address) (state_ruled profile state flash c) in
    let next : unreserved (profile_at profile).bus (state_at (left profile state flash c).state).address ≡ true =
    same ∙ calls_leave (profile_of (profile_at profile)) (view (state_at state)) kept flash (call_of c) in
    (next, all-unreserved profile (left profile state flash c).state (left profile state flash c).flash cs next)
