-- The fields of a line, and what a field says.
use Rattle.std.specs.Prelude.{◌≡◌, ℕ, zero, suc, ◌+◌, ◌-◌, ◌*◌, ◌/◌, Bool, true, false, cond, ◌&&◌, List, [], ◌∷◌, length}
use Rattle.std.specs.Prelude.{Option, None, Some, drop, ◌==◌, nat_le, is_some, unwrap_or, IfSome, option_map}
use Rattle.std.proofs.lemmas.List.Edits.{sets}
use Rattle.text.specs.Counts.{IsPrefixLen}

abbrev pub space : ℕ
space = 32

-- the bytes before the first byte b, or all of them
unfoldable pub before : ℕ → List ℕ → List ℕ
before b [] = []
before b (x ∷ xs) = cond (x == b) [] (x ∷ before b xs)

-- the field that begins at a place
abbrev pub field_at : List ℕ → ℕ → List ℕ
field_at s at = before space (drop at s)

-- where that field ends
abbrev pub field_end : List ℕ → ℕ → ℕ
field_end s at = at + length (field_at s at)

-- where the one after it begins: past the end of the line after its last field, and no further
abbrev pub next_place : List ℕ → ℕ → ℕ
next_place s at = cond (nat_le at (length s)) (field_end s at + 1) at

-- that field, if there is one
abbrev pub next_field : List ℕ → ℕ → Option (List ℕ)
next_field s at = cond (nat_le at (length s)) (Some (field_at s at)) None

-- the place that a line's last field leaves
abbrev pub is_read : List ℕ → ℕ → Bool
is_read s at = at == length s + 1

-- the value of `0` to `9` and `a` to `f`
abbrev pub digit_of : ℕ → Option ℕ
digit_of c = cond (nat_le 48 c && nat_le c 57) (Some (c - 48)) (cond (nat_le 97 c && nat_le c 102) (Some (c - 87)) None)

-- a value v and one decimal digit more, if it is at most most
abbrev pub extended : ℕ → ℕ → Option ℕ → Option ℕ
extended most v None = None
extended most v (Some d) = cond (nat_le d 9 && nat_le (v * 10 + d) most) (Some (v * 10 + d)) None

-- the number that decimal digits spell after a value, if it is at most most
unfoldable pub spelled : ℕ → Option ℕ → List ℕ → Option ℕ
spelled most None cs = None
spelled most (Some v) [] = Some v
spelled most (Some v) (c ∷ cs) = spelled most (extended most v (digit_of c)) cs

-- a decimal number has at least one digit
abbrev pub number_of : ℕ → List ℕ → Option ℕ
number_of most [] = None
number_of most (c ∷ cs) = spelled most (Some 0) (c ∷ cs)

-- a value and those after it, if each is there
abbrev pub both : Option ℕ → Option (List ℕ) → Option (List ℕ)
both None vs = None
both (Some v) vs = option_map (λ (r : List ℕ). v ∷ r) vs

-- k fields from a place on, as numbers, if none is wrong
unfoldable pub numbers_at : ℕ → List ℕ → ℕ → ℕ → Option (List ℕ)
numbers_at most s at zero = Some []
numbers_at most s at (suc k) = both (number_of most (field_at s at)) (numbers_at most s (next_place s at) k)

-- the place after them
unfoldable pub place_after : List ℕ → ℕ → ℕ → ℕ
place_after s at zero = at
place_after s at (suc k) = place_after s (next_place s at) k

-- the place after those that are read: behind the first wrong one, if there is one
unfoldable pub place_read : ℕ → List ℕ → ℕ → ℕ → ℕ
place_read most s at zero = at
place_read most s at (suc k) =
    cond (is_some (number_of most (field_at s at))) (place_read most s (next_place s at) k) (next_place s at)

-- pairs of hexadecimal digits only
unfoldable pub hex_right : List ℕ → Bool
hex_right [] = true
hex_right (a ∷ []) = false
hex_right (a ∷ b ∷ cs) = is_some (digit_of a) && is_some (digit_of b) && hex_right cs

-- the byte that a pair spells
abbrev pub pair_value : ℕ → ℕ → ℕ
pair_value a b = unwrap_or (digit_of a) 0 * 16 + unwrap_or (digit_of b) 0

-- the bytes that pairs spell
unfoldable pub hex_bytes : List ℕ → List ℕ
hex_bytes [] = []
hex_bytes (a ∷ []) = []
hex_bytes (a ∷ b ∷ cs) = pair_value a b ∷ hex_bytes cs

-- `-`
abbrev pub is_dash : List ℕ → Bool
is_dash [] = false
is_dash (c ∷ []) = c == 45
is_dash (c ∷ d ∷ cs) = false

-- how many bytes a byte string has: `-` for none, else at least one pair, and no more than there is room for
abbrev pub bytes_of : ℕ → List ℕ → Option ℕ
bytes_of room s =
    cond (is_dash s) (Some 0)
    (cond (nat_le 1 (length s) && hex_right s && nat_le (length s / 2) room) (Some (length s / 2)) None)

-- the output after it: a wrong one leaves it as it is
abbrev pub bytes_laid : List ℕ → List ℕ → Option ℕ → List ℕ
bytes_laid s out (Some n) = sets out 0 (hex_bytes s)
bytes_laid s out None = out

-- a byte string s, read into an output
pub record BytesRead (s out : List ℕ) (r : Option ℕ) (out' : List ℕ) : Type 0 where
  pub count : r ≡ bytes_of (length out) s
  pub laid : out' ≡ bytes_laid s out (bytes_of (length out) s)

-- a field as a byte string, read into an output
pub record HexRead (s : List ℕ) (at : ℕ) (out : List ℕ) (r : Option ℕ) (out' : List ℕ) : Type 0 where
  pub read : BytesRead (field_at s at) out r out'
  pub within : IfSome r (λ n. IsPrefixLen n out')
