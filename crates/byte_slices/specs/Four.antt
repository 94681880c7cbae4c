-- Numbers of four bytes, low byte first. Those of two bytes are `two_bytes`, `number_at` and `low_first` in `rules`.
use Rattle.std.specs.Prelude.{List, [], ◌∷◌, ℕ, ◌+◌, ◌*◌, ◌/◌, ◌%◌, get_or}

-- the number that four bytes from a place on stand for
abbrev pub four_at : List ℕ → ℕ → ℕ
four_at b at = get_or b at 0 + get_or b (at + 1) 0 * 256 + get_or b (at + 2) 0 * 65536 + get_or b (at + 3) 0 * 16777216

-- a number in four bytes: modulo 2^32
abbrev pub four_bytes : ℕ → List ℕ
four_bytes n = n % 256 ∷ n / 256 % 256 ∷ n / 65536 % 256 ∷ n / 16777216 % 256 ∷ []
