-- A request's bytes in a lent output: how many, and that its numbers fit them.
use Rattle.std.specs.Prelude.{◌≡◌, List, ℕ, ◌+◌, ◌<◌, length}
use Rattle.rules.specs.declared.kinds.Bus.{Bus}
use Rattle.rules.specs.declared.requests.Request.{Request}
use Rattle.rules.specs.declared.requests.Request.TheVariants.{Plain, SetAddress, Write, Read, ResetAddress, Reset}
use Rattle.rules.specs.Numbers.{laid}
use Rattle.rules.specs.Frames.{shortest_request}
use Rattle.rules.specs.Master.{Instruction, Commands, AddressReset, BoardReset}
use Rattle.general_calls.specs.Forms.{general_length}

-- bytes made at the front of a lent output, and how many
pub record Makes (bytes before after : List ℕ) (r : ℕ) : Type 0 where
  pub length_is : r ≡ length bytes
  pub output_is : after ≡ laid bytes before

-- how many bytes an instruction has
abbrev pub request_length : Bus → Instruction → ℕ
request_length bus (Commands code arguments) = shortest_request bus + length arguments
request_length bus AddressReset = general_length bus
request_length bus BoardReset = general_length bus

-- the destination and the code of a command fit a byte each
abbrev pub CommandFits : Instruction → ℕ → Type 0
CommandFits (Commands code arguments) destination = (destination < 256) × (code < 256)
CommandFits AddressReset destination = Unit {0}
CommandFits BoardReset destination = Unit {0}

-- the numbers of each request fit their bytes
abbrev pub NumbersFit : Request → Type 0
NumbersFit (Plain code) = Unit {0}
NumbersFit (SetAddress address hardware) = (address < 256) × (hardware < 256)
NumbersFit (Write address) = address < 65536
NumbersFit (Read address n) = (address < 65536) × (n < 256)
NumbersFit ResetAddress = Unit {0}
NumbersFit Reset = Unit {0}
