-- Lists of bytes: whether two are the same, bytes laid over a part of a list, and a number in two bytes.
use Rattle.std.specs.Prelude.{Bool, true, false, ◌&&◌, List, [], ◌∷◌, ◌++◌, ℕ, ◌+◌, ◌/◌, ◌%◌, eqb, length, take, drop}

-- two lists are the same
unfoldable pub same : List ℕ → List ℕ → Bool
same [] [] = true
same [] (y ∷ ys) = false
same (x ∷ xs) [] = false
same (x ∷ xs) (y ∷ ys) = eqb x y && same xs ys

-- d with the bytes laid over its places from at on
unfoldable pub overlay : List ℕ → ℕ → List ℕ → List ℕ
overlay d at bytes = take at d ++ bytes ++ drop (at + length bytes) d

-- a number in two bytes, low byte first; `two_bytes` has the high byte first
abbrev pub low_first : ℕ → List ℕ
low_first n = n % 256 ∷ n / 256 ∷ []
