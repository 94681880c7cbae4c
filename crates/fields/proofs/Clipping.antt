-- A number over 255 is clipped to 255, and the version rule answers alike.
use mathlib.Core.Path.{◌≡◌}
use Prim.Native.Nat.{ℕ, ◌<◌}
use native.Mathlib.Omega.{arith}
use lib.Dec.{eqb, ltb}
use borrow.Author.Tests.{ne_eqb, lt-ltb, ltb-true}
use Rattle.rules.specs.Master.{capped, version_rule}
use Rattle.laws.proofs.TestLaws.{by_test}
use Rattle.fields.specs.Fields.{clipped}

eqb-clipped : (x k : ℕ) → k < 255 → eqb (clipped x) k ≡ eqb x k
eqb-clipped x k h =
    by_test (ltb 255 x)
    (λ e. let far : 255 < x = ltb-true 255 x e in rw (e, ne_eqb 255 k (λ q. omega arith), ne_eqb x k (λ q. omega arith)))
    (λ e. rw e)

capped-clipped : (highest x : ℕ) → highest < 255 → capped highest (clipped x) ≡ capped highest x
capped-clipped highest x h =
    by_test (ltb 255 x)
    (λ e. let far : 255 < x = ltb-true 255 x e in rw (e, lt-ltb highest 255 h, lt-ltb highest x (omega arith)))
    (λ e. rw e)

pub version_rule-clipped : (major minor : ℕ) → version_rule (clipped major) (clipped minor) ≡ version_rule major minor
unfolding version_rule
version_rule-clipped major minor =
    rw (
      eqb-clipped major 1 (omega arith),
      eqb-clipped major 2 (omega arith),
      eqb-clipped major 0 (omega arith),
      eqb-clipped minor 0 (omega arith),
      capped-clipped 1 minor (omega arith),
      capped-clipped 2 minor (omega arith),
    )
