-- What closing a reply in a lent buffer leaves.
use Rattle.std.specs.Prelude.{◌≡◌, List, ℕ, ◌+◌, length, take, drop}
use Rattle.rules.specs.declared.kinds.Bus.{Bus}
use Rattle.rules.specs.Numbers.{laid}
use Rattle.rules.specs.Frames.{header_length, shortest_reply, reply}

-- the results that stand in a buffer behind the header, the status and their count
abbrev pub results_at : Bus → ℕ → List ℕ → List ℕ
results_at bus count out = take count (drop (header_length bus + 2) out)

-- the reply with those results stands in the buffer, its rest is untouched, and r is the reply's length
pub record Closing (bus : Bus) (address status count : ℕ) (before after : List ℕ) (r : ℕ) : Type 0 where
  pub length_is : r ≡ count + shortest_reply bus
  pub bytes_are : after ≡ laid (reply bus address status (results_at bus count before)) before
