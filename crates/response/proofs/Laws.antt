-- Room for results in the lent buffer.
use mathlib.Core.List.{[]}
use Prim.Native.Nat.{ℕ, ◌+◌, ◌≤◌}
use native.Mathlib.Omega.{arith}
use Rattle.rules.specs.Frames.{shortest_reply}
use Rattle.laws.proofs.SizeLaws.{shortest_reply-le}
use Rattle.laws.proofs.StateLaws.{unrefused_profile}
use Rattle.state.specs.declared.Head.{Head}
use Rattle.profile.specs.declared.Profile.{Profile}
use Rattle.response.specs.Done.{Serving}

-- results that a reply holds fit the buffer
pub results_fit : (p : Profile) (h : Head) (n m at k : ℕ) → Serving p h n m at → k + shortest_reply p.bus ≤ p.longest → at + k ≤ m
results_fit p h n m at k serving held = omega (arith, serving.at_is, (serving.unrefused [] []).buffer_holds)

-- and so do a few of them in any case
pub few_fit : (p : Profile) (h : Head) (n m at k : ℕ) → Serving p h n m at → k ≤ 27 → at + k ≤ m
few_fit p h n m at k serving few =
    results_fit p h n m at k serving
    (omega (arith, shortest_reply-le p.bus, (unrefused_profile (serving.unrefused [] [])).longest_least))
