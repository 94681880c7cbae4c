-- The states, calls and steps that wrong claims and wrong boards are tried on.
use mathlib.Core.List.{List, [], ◌∷◌}
use Prim.Native.Nat.{ℕ}
use lib.ListN.{get_or}
use Rattle.rules.specs.declared.kinds.Bus.TheVariants.{I2c}
use Rattle.rules.specs.Profile.{Profile}
use Rattle.rules.specs.State.{State, fresh, with_upload}
use Rattle.ledger.specs.Ledger.{opened}
use Rattle.ledger.specs.Calls.{Call, Read, Step}
use Rattle.wrongboards.proofs.Cases.{small, write, finalize}

-- a state with an older upload: next, the waiting bytes and the count
abbrev pub state_with : ℕ → List ℕ → ℕ → State
state_with next waiting count = with_upload fresh (record { next = next; waiting = waiting; count = count })

-- a working flash of one page of 64 bytes at 0, and the same at 64
abbrev pub at_zero : Profile
at_zero = small I2c 64

abbrev pub at_page : Profile
at_page = record {
  bus = I2c;
  longest = 128;
  page = 64;
  size = 64;
  offset = 64;
  hardware = 1;
  compatible = 1;
  actual = 1;
  version = 1;
  serial = [];
}

-- an image written at 0, another call, and a finalize
abbrev pub around : List ℕ → Call → List Call
around image c = write I2c 0 image ∷ c ∷ finalize I2c ∷ []

-- a step by its place; past the end, a step in which nothing happens
abbrev pub step_at : List Step → ℕ → Step
step_at steps i = get_or steps i (record { call = Read 0 0; number = 1; reply = []; count = 0; flash = []; ledger = opened [] })
