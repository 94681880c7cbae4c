-- What the row of a code says is what the table says.
use mathlib.Core.Path.{◌≡◌, ap, ◌∙◌}
use mathlib.Core.Bool.{Bool, ◌&&◌}
use mathlib.Core.List.{List}
use Prim.Native.Nat.{ℕ}
use lib.Dec.{eqb, leb}
use lib.ListN.{get_or}
use Rattle.rules.specs.Commands.{tabled, served, length_allowed}

module _ (code : ℕ) (row : List ℕ) (looked-up : (column : ℕ) → get_or row column 0 ≡ tabled code column) where
  pub row-served : {b : Bool} → b ≡ eqb (get_or row 0 0) 1 → b ≡ served code
  row-served e = e ∙ ap (λ (x : ℕ). eqb x 1) (looked-up 0)

  pub row_allowed : {b : Bool} (n : ℕ) → b ≡ (leb (get_or row 1 0) n && leb n (get_or row 2 0)) → b ≡ length_allowed code n
  row_allowed n e = e ∙ rw (looked-up 1, looked-up 2)
