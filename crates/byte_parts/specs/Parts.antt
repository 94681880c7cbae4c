-- Parts of lists of bytes, and single bytes of them.
use Rattle.std.specs.Prelude.{Bool, ◌&&◌, List, ℕ, eqb, ltb, length, take, drop, get_or}

-- the byte b stands at a place
abbrev pub stands_at : List ℕ → ℕ → ℕ → Bool
stands_at bytes place b = ltb place (length bytes) && eqb (get_or bytes place 0) b

-- n bytes from a place on, or as many as there are
abbrev pub part : ℕ → ℕ → List ℕ → List ℕ
part at n bytes = take n (drop at bytes)
