-- Laws of the argument table: a code past its end has no row, so only codes within it are served.
use mathlib.Core.Path.{◌≡◌, ap}
use mathlib.Core.Bool.{true}
use mathlib.Core.List.{List, []}
use Prim.Native.Nat.{ℕ, ◌<◌, ◌≤◌}
use native.Mathlib.Omega.{arith}
use lib.Dec.{ltb}
use lib.ListN.{get_or, get_or-eq_default}
use borrow.Author.Tests.{ltb-true, ltb-false, eqb-true}
use Rattle.rules.specs.Commands.{argument_rows, tabled, served}
use Rattle.laws.proofs.TestLaws.{by_test}

pub tabled_past : (code column : ℕ) → 15 ≤ code → tabled code column ≡ 0
unfolding tabled
tabled_past code column h = ap (λ (row : List ℕ). get_or row column 0) (get_or-eq_default argument_rows [] h)

pub served-lt : (code : ℕ) → served code ≡ true → code < 15
served-lt code e =
    by_test (ltb code 15) (λ h. ltb-true code 15 h)
    (λ h. omega (arith, tabled_past code 0 (ltb-false code 15 h), eqb-true (tabled code 0) 1 e))
