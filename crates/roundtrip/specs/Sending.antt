-- A request that the encoder makes, given to a board.
use Rattle.std.specs.Prelude.{◌≡◌, true, false, List, ℕ, length}
use Rattle.rules.specs.declared.kinds.Bus.{Bus}
use Rattle.rules.specs.declared.kinds.Bus.TheVariants.{I2c, Rs485}
use Rattle.rules.specs.declared.requests.Request.{Request}
use Rattle.rules.specs.Profile.{Profile}
use Rattle.rules.specs.State.{State}
use Rattle.rules.specs.Numbers.{refusal}
use Rattle.rules.specs.Frames.{addressed}
use Rattle.rules.specs.Board.{Called, received}
use Rattle.rules.specs.Master.{Instruction, Commands, AddressReset, BoardReset, Encoding, instruction_of, encoded}

pub record Sending : Type 0 where
  -- the master: the request, its destination, a write's data bytes, and how long the output is that it lends to the encoder
  pub request : Request
  pub to : ℕ
  pub bytes : List ℕ
  pub room : ℕ
  -- the board: its profile, state and flash, how long its reply buffer is, and the I²C address beside the frame
  pub profile : Profile
  pub state : State
  pub flash : List ℕ
  pub buffer : ℕ
  pub beside : ℕ

abbrev pub bus : Sending → Bus
bus x = x.profile.bus

-- what the encoder answers, for the board's bus and M
abbrev pub encoding : Sending → Encoding
encoding x = encoded (bus x) x.profile.longest x.request x.to x.bytes x.room

abbrev pub frame : Sending → List ℕ
frame x = (encoding x).bytes

-- what the board does with it
abbrev pub call : Sending → Called
call x = received x.profile x.state x.beside (frame x) x.flash x.buffer

-- what it asks
abbrev pub instruction : Sending → Instruction
instruction x = instruction_of x.request x.bytes

-- where it is sent: a general call to address 0
abbrev pub target : ℕ → Instruction → ℕ
target to (Commands code arguments) = to
target to AddressReset = 0
target to BoardReset = 0

-- on I²C the address beside the frame is where it is sent; RS485 does not look at it
abbrev pub Beside : Bus → ℕ → ℕ → Type 0
Beside I2c beside target = beside ≡ target
Beside Rs485 beside target = Unit

-- a command reaches a board at its address while it isn't running, a reset address by any board that isn't running, a reset by any
-- board
abbrev pub AddressedBy : Profile → State → ℕ → Instruction → Type 0
AddressedBy p s to (Commands code arguments) = (s.running ≡ false) × (addressed p.bus s.address to ≡ true)
AddressedBy p s to AddressReset = s.running ≡ false
AddressedBy p s to BoardReset = Unit

-- the encoder makes the request, and it is given to a board that it reaches and that answers none of 2 to 5
pub record Given (x : Sending) : Type 0 where
  pub made : (encoding x).number ≡ 0
  pub sent : Beside (bus x) x.beside (target x.to (instruction x))
  pub none_refused : refusal x.profile x.state (length x.flash) x.buffer ≡ 0
  pub heard : AddressedBy x.profile x.state x.to (instruction x)
