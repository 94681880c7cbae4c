-- How many bytes can be lost.
use mathlib.Core.Path.{◌≡◌, refl}
use mathlib.Core.List.{List, [], ◌∷◌}
use Prim.Native.Nat.{ℕ, ◌+◌, ◌≤◌}
use native.Mathlib.Omega.{arith}
use lib.ListN.{length, take}
use Rattle.lost_bytes.specs.Lost.{lost_byte, lost_from}
use Rattle.lost_bytes.proofs.LostLaws.{at_most_one, length_part}

lost_from_most : (flash : List ℕ) (first : ℕ) (waiting : List ℕ) (address : ℕ) (bytes : List ℕ)
    → lost_from flash first waiting address bytes ≤ length bytes
unfolding lost_from
lost_from_most flash first waiting address [] = omega arith
lost_from_most flash first waiting address (b ∷ bs) =
    omega (
      arith,
      at_most_one (lost_byte flash first waiting address b) refl,
      lost_from_most flash first waiting (address + 1) bs,
    )

-- at most as many as waited before, which are the first of the buffer's bytes
pub lost_most : (flash : List ℕ) (first : ℕ) (waiting : List ℕ) (address held : ℕ) (bytes : List ℕ) {n : ℕ}
    → n ≡ lost_from flash first waiting address (take held bytes) → n ≤ length bytes
lost_most flash first waiting address held bytes e =
    rw e (omega (arith, lost_from_most flash first waiting address (take held bytes), length_part held bytes))
