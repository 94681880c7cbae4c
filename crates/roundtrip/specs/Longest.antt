-- The longest data of a write and the longest results of a read, and that the encoder makes requests up to these and no longer ones.
use Rattle.std.specs.Prelude.{◌≡◌, true, false, List, [], ℕ, ◌+◌, ◌-◌, ◌≤◌, ◌<◌, eqb, length}
use Rattle.rules.specs.declared.kinds.Bus.{Bus}
use Rattle.rules.specs.declared.requests.Request.{Request}
use Rattle.rules.specs.declared.requests.Request.TheVariants.{Write, Read}
use Rattle.rules.specs.Profile.{frame_in_range}
use Rattle.rules.specs.Frames.{shortest_request, shortest_reply}
use Rattle.rules.specs.Master.{address_over, flash_address_over, request_bytes, encoded}

-- the longest data of a write: M - 4 on I²C and M - 6 on RS485
abbrev pub data_most : Bus → ℕ → ℕ
data_most bus M = M - (shortest_request bus + 2)

-- the longest results of a read: M - 3 on I²C and M - 5 on RS485
abbrev pub results_most : Bus → ℕ → ℕ
results_most bus M = M - shortest_reply bus

-- the encoder makes the request into an output that holds it
abbrev pub Makes : Bus → ℕ → Request → ℕ → List ℕ → Type 0
Makes bus M r to bytes = (room : ℕ) → length (request_bytes bus r to bytes) ≤ room → (encoded bus M r to bytes room).number ≡ 0

-- the encoder refuses the request by 7
abbrev pub Refuses : Bus → ℕ → Request → ℕ → List ℕ → Type 0
Refuses bus M r to bytes = (room : ℕ) → (encoded bus M r to bytes room).number ≡ 7

-- of writes and reads at a flash address
pub record MadeUpTo (bus : Bus) (M at to : ℕ) : Type 0 where
  pub write_made : (bytes : List ℕ) → length bytes ≤ data_most bus M → Makes bus M (Write at) to bytes
  pub write_refused : (bytes : List ℕ) → data_most bus M < length bytes → Refuses bus M (Write at) to bytes
  pub read_made : (n : ℕ) → n ≤ results_most bus M → Makes bus M (Read at n) to []
  pub read_refused : (n : ℕ) → results_most bus M < n → Refuses bus M (Read at n) to []

-- under every M in range, at every flash address, to every destination of the bus
abbrev pub LongestMade : Type 0
LongestMade =
    (bus : Bus) (M at to : ℕ) → frame_in_range M ≡ true → flash_address_over at ≡ false → eqb to 0 ≡ false → address_over bus to ≡ false
    → MadeUpTo bus M at to
