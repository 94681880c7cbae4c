-- Laws of lost bytes: parts of a list, and the turns of the loop that counts.
use mathlib.Core.Path.{◌≡◌, refl, ap}
use mathlib.Core.Bool.{Bool, true, false, cond}
use mathlib.Core.List.{List, [], ◌∷◌}
use Prim.Native.Nat.{ℕ, suc, zero, suc-le-suc, ◌+◌, ◌<◌, ◌≤◌}
use native.Mathlib.Omega.{arith}
use native.Mathlib.Numerals.{add-one}
use Rattle.std.specs.Int.{from_bool}
use lib.ListN.{length, get_or, take, drop, drop_of_length-le}
use lib.Seq.{drop-cons}
use Rattle.lost_bytes.specs.Lost.{lost_byte, lost_from}

-- as many bytes as a part has
pub take_part : (n : ℕ) (l : List ℕ) → take (length (take n l)) l ≡ take n l
take_part zero l = refl
take_part (suc n) [] = refl
take_part (suc n) (x ∷ xs) = ap (λ (r : List ℕ). x ∷ r) (take_part n xs)

-- a part is no longer than the whole
pub length_part : (n : ℕ) (l : List ℕ) → length (take n l) ≤ length l
length_part zero l = omega arith
length_part (suc n) [] = omega arith
length_part (suc n) (x ∷ xs) = suc-le-suc (length_part n xs)

-- a test counts at most 1
pub at_most_one : (b : Bool) {n : ℕ} → n ≡ cond b 1 0 → n ≤ 1
at_most_one true e = omega arith
at_most_one false e = omega arith

-- a test as a number
pub from_test : (b : Bool) → from_bool b ≡ cond b 1 0
from_test true = refl
from_test false = refl

module _ (flash : List ℕ) (first : ℕ) (waiting : List ℕ) (address : ℕ) (bytes : List ℕ) where
  -- one byte more is counted
  pub lost_next : (i : ℕ) → i < length bytes
      → lost_from flash first waiting (address + i) (drop i bytes)
      ≡ cond (lost_byte flash first waiting (address + i) (get_or bytes i 0)) 1 0
      + lost_from flash first waiting (address + (i + 1)) (drop (i + 1) bytes)
  unfolding lost_from
  lost_next i h =
      let k : address + i + 1 ≡ address + (i + 1) = omega arith in
      rw (drop-cons bytes i 0) (cc (k, add-one i))

  -- all are counted
  pub lost_end : (i : ℕ) → length bytes ≤ i → lost_from flash first waiting (address + i) (drop i bytes) ≡ 0
  unfolding lost_from
  lost_end i h = rw (drop_of_length-le bytes h)
