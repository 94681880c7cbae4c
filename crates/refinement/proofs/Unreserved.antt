-- No call of the code brings it to a reserved address: what its state says is what the rules' board keeps (`Observed`), and that one
-- never comes to one (`calls_leave`).
use mathlib.Core.Path.{◌≡◌, ap, ◌∙◌}
use mathlib.Core.Bool.{true}
use mathlib.Core.List.{List, [], ◌∷◌}
use Prim.Native.Nat.{ℕ}
use Rattle.rules.specs.State as states
use Rattle.ledger.specs.Ledger.{opened}
use Rattle.address_claims.specs.Addresses.{unreserved}
use Rattle.address_claims.proofs.Unreserved.{calls_leave}
use Rattle.state.specs.declared.State.{State}
use Rattle.state.specs.View.{view}
use Rattle.profile.specs.declared.Profile.{Profile}
use Rattle.profile.specs.View.{profile_of}
use Rattle.refinement.specs.Happened.{Happened, Ran, call_of}
use Rattle.refinement.specs.Met.{AllUnreserved}
use Rattle.refinement.proofs.Observed.{state_ruled}

pub all-unreserved : (p : Profile) (s : State) (d : List ℕ) (hs : List Happened) → unreserved p.bus s.address ≡ true → Ran p s d hs
    → AllUnreserved p hs
all-unreserved p s d [] kept ran = tt
all-unreserved p s d (h ∷ hs) kept ran =
    let same = ap (λ (x : states.State). unreserved p.bus x.address) (state_ruled p s d (opened d) h ran.0) in
    let next : unreserved p.bus h.answer.state.address ≡ true = same ∙ calls_leave (profile_of p) (view s) kept d (call_of h) in
    (next, all-unreserved p h.answer.state h.flash hs next ran.1)
