-- The check sum's bytes, stored behind the first n, one or two by the bus.
use mathlib.Core.Path.{◌≡◌, refl, sym, ap, ◌∙◌}
use mathlib.Core.List.{List, [], ◌∷◌, ◌++◌, append_assoc}
use Prim.Native.Nat.{ℕ, ◌+◌, ◌<◌, ◌≤◌}
use native.Mathlib.Omega.{arith}
use lib.ListN.{length, take, drop, get_or, set, length-append, take-append-drop}
use lib.Seq.{length-take-le}
use Rattle.rules.specs.declared.kinds.Bus.{Bus}
use Rattle.rules.specs.declared.kinds.Bus.TheVariants.{I2c, Rs485}
use Rattle.rules.specs.CheckSums.{sum, sum_length, sealed}
use Rattle.rules.specs.Numbers.{laid}
use Rattle.laws.proofs.LaidLaws.{laid_snoc}
use Rattle.frame.specs.Seal.{Sealing}

pub sum_some : (bus : Bus) → 0 < sum_length bus
sum_some I2c = omega arith
sum_some Rs485 = omega arith

two_bytes : (r : List ℕ) → length r ≡ 2 → r ≡ get_or r 0 0 ∷ get_or r 1 0 ∷ []
two_bytes [] e = absurd (omega arith)
two_bytes (x ∷ []) e = absurd (omega arith)
two_bytes (x ∷ y ∷ []) e = refl
two_bytes (x ∷ y ∷ z ∷ l) e = absurd (omega arith)

module _ (n : ℕ) (r before : List ℕ) (room : n < length before) (two : length r ≡ 2) where
  front : length (take n before) ≡ n
  front = length-take-le n before (omega arith)

  -- the buffer itself, with the byte behind the first n stored
  first_stored : set before n (get_or r 0 0) ≡ laid (take n before ++ get_or r 0 0 ∷ []) before
  first_stored =
      ap (λ (l : List ℕ). set l n (get_or r 0 0))
      (sym (ap (λ (k : ℕ). take n before ++ drop k before) front ∙ take-append-drop n before))
      ∙ laid_snoc (take n before) before n (get_or r 0 0) front room

  pub sealing_one : take (sum_length I2c) r ≡ sum I2c (take n before) → Sealing I2c n before (set before n (get_or r 0 0)) (n + 1)
  unfolding sealed
  sealing_one summed =
      let own : get_or r 0 0 ∷ [] ≡ sum I2c (take n before) = ap (λ (l : List ℕ). take 1 l) (sym (two_bytes r two)) ∙ summed in
      record { length_is = refl; bytes_are = first_stored ∙ ap (λ (l : List ℕ). laid (take n before ++ l) before) own }

  pub sealing_two : n + 1 < length before → take (sum_length Rs485) r ≡ sum Rs485 (take n before)
      → Sealing Rs485 n before (set (set before n (get_or r 0 0)) (n + 1) (get_or r 1 0)) (n + 2)
  unfolding sealed
  sealing_two more summed =
      let own : get_or r 0 0 ∷ get_or r 1 0 ∷ [] ≡ sum Rs485 (take n before) =
      ap (λ (l : List ℕ). take 2 l) (sym (two_bytes r two)) ∙ summed in
      let begun : length (take n before ++ get_or r 0 0 ∷ []) ≡ n + 1 =
      length-append (take n before) (get_or r 0 0 ∷ []) ∙ ap (λ (k : ℕ). k + 1) front in
      record {
        length_is = refl;
        bytes_are =
            ap (λ (l : List ℕ). set l (n + 1) (get_or r 1 0)) first_stored
            ∙ laid_snoc (take n before ++ get_or r 0 0 ∷ []) before (n + 1) (get_or r 1 0) begun more
            ∙ ap (λ (l : List ℕ). laid l before) (append_assoc (take n before) (get_or r 0 0 ∷ []) (get_or r 1 0 ∷ []))
            ∙ ap (λ (l : List ℕ). laid (take n before ++ l) before) own;
      }
