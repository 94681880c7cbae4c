-- How many bytes a request has.
use mathlib.Core.Path.{◌≡◌}
use mathlib.Core.List.{List}
use Prim.Native.Nat.{ℕ}
use lib.ListN.{length}
use Rattle.rules.specs.declared.kinds.Bus.{Bus}
use Rattle.rules.specs.declared.requests.Request.{Request}
use Rattle.rules.specs.Master.{Instruction, Commands, AddressReset, BoardReset, instruction_of, instruction_bytes, request_bytes}
use Rattle.laws.proofs.FrameLaws.{length-request}
use Rattle.general_calls.specs.declared.General.TheVariants.{ResetAddress, Reset}
use Rattle.general_calls.proofs.Laws.{length_general}
use Rattle.request_bytes.specs.Making.{request_length}

length-instruction_bytes : (bus : Bus) (destination : ℕ) (a : Instruction)
    → length (instruction_bytes bus destination a) ≡ request_length bus a
length-instruction_bytes bus destination (Commands code arguments) = length-request bus destination code arguments
length-instruction_bytes bus destination AddressReset = length_general bus ResetAddress
length-instruction_bytes bus destination BoardReset = length_general bus Reset

pub length-request_bytes : (bus : Bus) (r : Request) (destination : ℕ) (bytes : List ℕ)
    → length (request_bytes bus r destination bytes) ≡ request_length bus (instruction_of r bytes)
unfolding request_bytes
length-request_bytes bus r destination bytes = length-instruction_bytes bus destination (instruction_of r bytes)
