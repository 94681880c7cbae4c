-- Bytes committed at a place of lent flash.
use Rattle.std.specs.Prelude.{◌≡◌, Bool, not, List, ℕ, length, take, drop}
use Rattle.rules.specs.Bytes.{same, overlay}

-- flash d becomes d', and the answer tells whether that is a change
pub record Committed (d : List ℕ) (at : ℕ) (bytes : List ℕ) (answer : Bool) (d' : List ℕ) : Type 0 where
  pub changed : answer ≡ not (same (take (length bytes) (drop at d)) bytes)
  pub laid : d' ≡ overlay d at bytes
