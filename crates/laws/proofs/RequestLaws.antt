-- Laws of the encoder's number 7: what a request that is not refused passed, for all requests at once.
use mathlib.Core.Path.{◌≡◌}
use mathlib.Core.Bool.{false, true, not, ◌&&◌}
use mathlib.Core.List.{List}
use Prim.Native.Nat.{ℕ, ◌+◌, ◌≤◌}
use lib.Dec.{eqb, ltb}
use lib.ListN.{length}
use borrow.Author.Tests.{ltb-false, not-false}
use Rattle.rules.specs.declared.kinds.Bus.{Bus}
use Rattle.rules.specs.declared.requests.Request.{Request}
use Rattle.rules.specs.Frames.{shortest_request}
use Rattle.rules.specs.Commands.{served, length_allowed}
use Rattle.rules.specs.Master.{Instruction, Commands, AddressReset, BoardReset, instruction_of, address_over, command_wrong, numbers_wrong}
use Rattle.rules.specs.Master.{instruction_wrong, argument_wrong}
use Rattle.laws.proofs.TestLaws.{&&_true, ||_false}

-- what a command with n argument bytes passed
pub record Allowed (bus : Bus) (M to code n : ℕ) : Type 0 where
  pub is_served : served code ≡ true
  pub length_allowed_holds : length_allowed code n ≡ true
  pub fits : shortest_request bus + n ≤ M
  pub address_fits_holds : address_over bus to ≡ false

command_wrong_allowed : (bus : Bus) (M to code n : ℕ) → command_wrong bus M to code n ≡ false → Allowed bus M to code n
unfolding command_wrong
command_wrong_allowed bus M to code n e =
    let tabled = ||_false (not (served code && length_allowed code n)) _ e in
    let sized = ||_false (ltb M (shortest_request bus + n)) _ tabled.1 in
    let row = &&_true (served code) (length_allowed code n) (not-false _ tabled.0) in
    record {
      is_served = row.0;
      length_allowed_holds = row.1;
      fits = ltb-false _ _ sized.0;
      address_fits_holds = (||_false (eqb to 0) (address_over bus to) sized.1).1;
    }

-- what an instruction passed; a general call has nothing to pass
abbrev pub AllowedBy : Bus → ℕ → ℕ → Instruction → Type 0
AllowedBy bus M to (Commands code arguments) = Allowed bus M to code (length arguments)
AllowedBy bus M to AddressReset = Unit
AllowedBy bus M to BoardReset = Unit

instruction_wrong_allowed : (bus : Bus) (M to : ℕ) (a : Instruction) → instruction_wrong bus M to a ≡ false → AllowedBy bus M to a
instruction_wrong_allowed bus M to (Commands code arguments) e = command_wrong_allowed bus M to code (length arguments) e
instruction_wrong_allowed bus M to AddressReset e = tt
instruction_wrong_allowed bus M to BoardReset e = tt

-- what a request passed
pub record Right (bus : Bus) (M : ℕ) (r : Request) (to : ℕ) (bytes : List ℕ) : Type 0 where
  pub allowed : AllowedBy bus M to (instruction_of r bytes)
  pub numbers_right : numbers_wrong bus M r ≡ false

pub argument_wrong_right : (bus : Bus) (M : ℕ) (r : Request) (to : ℕ) (bytes : List ℕ) → argument_wrong bus M r to bytes ≡ false
    → Right bus M r to bytes
unfolding argument_wrong
argument_wrong_right bus M r to bytes e =
    let parts = ||_false (instruction_wrong bus M to (instruction_of r bytes)) (numbers_wrong bus M r) e in
    record { allowed = instruction_wrong_allowed bus M to (instruction_of r bytes) parts.0; numbers_right = parts.1 }
