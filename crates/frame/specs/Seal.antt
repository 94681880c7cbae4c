-- What sealing the first n bytes of a lent buffer leaves.
use Rattle.std.specs.Prelude.{◌≡◌, List, ℕ, ◌+◌, take}
use Rattle.rules.specs.declared.kinds.Bus.{Bus}
use Rattle.rules.specs.CheckSums.{sum_length, sealed}
use Rattle.rules.specs.Numbers.{laid}

-- the first n bytes and then their check sum stand in the buffer, its rest is untouched, and r bytes are made
pub record Sealing (bus : Bus) (n : ℕ) (before after : List ℕ) (r : ℕ) : Type 0 where
  pub length_is : r ≡ n + sum_length bus
  pub bytes_are : after ≡ laid (sealed bus (take n before)) before
