-- The bound of demand 3 on the count is reached: document 01's E10 and then E12, on I²C, with flash all 0xFF, under a page of 64 bytes and
-- under one of 128.
use Rattle.std.specs.Prelude.{◌≡◌, List, [], ◌∷◌, ℕ, ◌+◌, ◌/◌, length, replicate}
use Rattle.rules.specs.declared.kinds.Bus.TheVariants.{I2c}
use Rattle.rules.specs.Frames.{request}
use Rattle.rules.specs.Profile.{Profile}
use Rattle.rules.specs.Examples.{example_board, gauge_board}
use Rattle.ledger.specs.Calls.{Call, Frame, Step, ruled, traced}

-- a request to address 8
abbrev pub sent : ℕ → List ℕ → Call
sent code arguments = Frame 8 (request I2c 8 code arguments) 256

-- 70 bytes 0x11 at 0, finalize; a byte 0x22 at 70, finalize
abbrev pub example_calls : List Call
example_calls = sent 0x06 (0 ∷ 0 ∷ replicate 70 0x11) ∷ sent 0x07 [] ∷ sent 0x06 (0 ∷ 70 ∷ 0x22 ∷ []) ∷ sent 0x07 [] ∷ []

abbrev pub example_steps : Profile → List Step
example_steps p = traced ruled p (replicate 128 0xFF) example_calls

-- the count, f, and the bound, n divided by the page plus f, after each of some steps
abbrev pub counts_of : List Step → List ℕ
counts_of [] = []
counts_of (s ∷ ss) = s.ledger.count ∷ counts_of ss

abbrev pub finals_of : List Step → List ℕ
finals_of [] = []
finals_of (s ∷ ss) = s.ledger.finals ∷ finals_of ss

abbrev pub bounds_of : Profile → List Step → List ℕ
bounds_of p [] = []
bounds_of p (s ∷ ss) = (length s.ledger.accepted / p.page + s.ledger.finals) ∷ bounds_of p ss

-- each count is as large as its bound lets it be
pub record ReachedOn (p : Profile) (counts finals : List ℕ) : Type 0 where
  pub counts_are : counts_of (example_steps p) ≡ counts
  pub finals_are : finals_of (example_steps p) ≡ finals
  pub bounds_are : bounds_of p (example_steps p) ≡ counts

pub record BoundReached : Type 0 where
  pub page_64 : ReachedOn example_board (1 ∷ 2 ∷ 2 ∷ 3 ∷ []) (0 ∷ 1 ∷ 1 ∷ 2 ∷ [])
  pub page_128 : ReachedOn gauge_board (0 ∷ 1 ∷ 1 ∷ 2 ∷ []) (0 ∷ 1 ∷ 1 ∷ 2 ∷ [])
