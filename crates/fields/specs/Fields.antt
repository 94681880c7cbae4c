-- The parts of a byte layout: bytes from a place on, and numbers that stand for a byte. Numbers of four bytes are in `byte_slices`.
use Rattle.std.specs.Prelude.{cond, List, ℕ, ◌<◌, ltb, take, drop, get_or}

-- a list of bytes
abbrev pub Bytes : List ℕ → Type 0
Bytes b = (i : ℕ) → get_or b i 0 < 256

-- n bytes from a place on
abbrev pub part : List ℕ → ℕ → ℕ → List ℕ
part b at n = take n (drop at b)

-- a number over 255 is 255: as an I²C address both are foreign, as a major or minor version both count alike
abbrev pub clipped : ℕ → ℕ
clipped x = cond (ltb 255 x) 255 x
