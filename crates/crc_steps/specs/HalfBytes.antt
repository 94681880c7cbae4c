-- W2, check sums four bits at a time: a byte in two steps by a table of sixteen entries, over the algorithm.
use Rattle.std.specs.Prelude.{◌≡◌, Bool, true, ◌&&◌, List, [], ◌∷◌, ℕ, suc, ◌*◌, ◌/◌, ◌%◌, ◌^◌, ◌<◌, eqb, length, get_or}
use Rattle.std.specs.Int.Bits.{bit_xor}
use Rattle.rules.specs.CheckSums.{Algorithm, most_first, least_first, times, bit, byte}

-- the half byte that leaves a register first, a half byte placed there, and the other bits four places on
pub record Halves : Type 0 where
  pub leaving : ℕ → ℕ
  pub placed : ℕ → ℕ
  pub moved : ℕ → ℕ

-- most significant bit first, in a register of 8 bits: the high half leaves first
abbrev pub high_half : Halves
high_half = record { leaving = λ r. r / 16; placed = λ i. i * 16; moved = λ r. r * 16 % 256 }

-- least significant bit first: the low half
abbrev pub low_half : Halves
low_half = record { leaving = λ r. r % 16; placed = λ i. i; moved = λ r. r / 16 }

-- the rule of entry i: the register after four bit steps from i placed in the half that leaves first
abbrev pub entry_right : Algorithm → Halves → ℕ → ℕ → Bool
entry_right k h i entry = eqb entry (times 4 (bit k) (h.placed i))

-- its test over a whole table, whose first entry has the number i
unfoldable pub entries_right : Algorithm → Halves → ℕ → List ℕ → Bool
entries_right k h i [] = true
entries_right k h i (entry ∷ table) = entry_right k h i entry && entries_right k h (suc i) table

-- a right table: sixteen entries, each by the rule
abbrev pub table_right : Algorithm → Halves → List ℕ → Bool
table_right k h table = eqb (length table) 16 && entries_right k h 0 table

-- the register after half a byte, by the table
unfoldable pub half_step : Halves → List ℕ → ℕ → ℕ
half_step h table r = bit_xor (h.moved r) (get_or table (h.leaving r) 0)

-- the register after one byte, by the table
unfoldable pub table_step : Halves → List ℕ → ℕ → ℕ → ℕ
table_step h table r b = half_step h table (half_step h table (bit_xor r b))

-- by any right table the register after one byte is that of eight bit steps
abbrev pub ByTable : ℕ → Algorithm → Halves → Type 0
ByTable width k h =
    (table : List ℕ) → table_right k h table ≡ true → (r b : ℕ) → r < 2 ^ width → b < 2 ^ width → table_step h table r b ≡ byte k r b

-- whatever the polynomial: most significant bit first in 8 bits, least significant bit first in any width
abbrev pub EightBitsByTable : Type 0
EightBitsByTable =
    ((poly start : ℕ) → poly < 2 ^ 8 → start < 2 ^ 8 → ByTable 8 (most_first poly start) high_half)
    × ((width poly start : ℕ) → poly < 2 ^ width → start < 2 ^ width → ByTable width (least_first poly start) low_half)
