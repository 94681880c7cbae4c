-- What the past frames and answers of a list tell about a board, without a look at its state.
use Rattle.std.specs.Prelude.{Bool, true, false, cond, not, ◌&&◌, ◌||◌, List, [], ℕ, ◌+◌, eqb, length, get_or}
use Rattle.rules.specs.declared.kinds.Bus.{Bus}
use Rattle.rules.specs.declared.kinds.Bus.TheVariants.{I2c, Rs485}
use Rattle.rules.specs.declared.kinds.Address.{Address}
use Rattle.rules.specs.declared.kinds.Address.TheVariants.{DefaultRange, Own}
use Rattle.rules.specs.Profile.{Profile}
use Rattle.rules.specs.State.{State}
use Rattle.rules.specs.Frames.{framing, is_command, is_general, reset_address_frame, reset_frame, command_of, arguments_of}
use Rattle.rules.specs.Commands.{address_taken}
use Rattle.ledger.specs.Ledger.{answered_ok, write_address, write_data}
use Rattle.ledger.specs.Calls.{Call, Frame, Read, Step}

pub record Past : Type 0 where
  pub running : Bool
  pub address : Address
  pub next : ℕ

abbrev pub initial_past : Past
initial_past = record { running = false; address = DefaultRange; next = 0 }

-- a well-framed command to this board (not to all boards), while it isn't running
unfoldable pub well_framed : Profile → Past → ℕ → List ℕ → Bool
well_framed p past a f = not past.running && is_command (framing p.bus p.longest past.address a f)

-- start, with no arguments, answered by nothing
abbrev pub start_taken : Profile → Past → ℕ → List ℕ → ℕ → Bool
start_taken p past a f number =
    well_framed p past a f && (eqb (command_of p.bus f) 0x05 && (eqb (length (arguments_of p.bus f)) 0 && eqb number 1))

-- reset address, answered by nothing while not running
abbrev pub address_reset : Profile → Past → ℕ → List ℕ → ℕ → Bool
address_reset p past a f number = not past.running && (is_general p.bus a f (reset_address_frame p.bus) && eqb number 1)

-- what a received frame and its answer add to the past
unfoldable pub after_frame : Profile → Past → ℕ → List ℕ → ℕ → List ℕ → Past
after_frame p past a f number reply =
    cond (is_general p.bus a f (reset_frame p.bus) && eqb number 1) initial_past
    (cond (address_reset p past a f number) (record { running = past.running; address = DefaultRange; next = past.next })
    (cond (start_taken p past a f number) (record { running = true; address = past.address; next = past.next })
    (cond (answered_ok p.bus 0x01 f number reply)
    (record { running = past.running; address = Own (address_taken p.bus (get_or (arguments_of p.bus f) 0 0)); next = past.next })
    (cond (answered_ok p.bus 0x06 f number reply)
    (record { running = past.running; address = past.address; next = write_address p.bus f + length (write_data p.bus f) })
    past))))

abbrev pub after_call : Profile → Past → Call → ℕ → List ℕ → Past
after_call p past (Frame a f n) number reply = after_frame p past a f number reply
after_call p past (Read a n) number reply = past

-- only I²C keeps a reply
abbrev pub kept_reply : Bus → List ℕ → List ℕ
kept_reply I2c reply = reply
kept_reply Rs485 reply = []

-- executed, and so without a last reply if it is answered by nothing: a general call, or a command to this board
abbrev pub executes : Profile → Past → ℕ → List ℕ → Bool
executes p past a f =
    is_general p.bus a f (reset_frame p.bus)
    || ((not past.running && is_general p.bus a f (reset_address_frame p.bus)) || well_framed p past a f)

-- the last reply after a frame: its own, none, or the one before
unfoldable pub last_after : Profile → Past → List ℕ → ℕ → List ℕ → ℕ → List ℕ → List ℕ
last_after p past last a f number reply =
    cond (eqb number 0) (kept_reply p.bus reply) (cond (eqb number 1 && executes p past a f) [] last)

abbrev pub last_call : Profile → Past → List ℕ → Call → ℕ → List ℕ → List ℕ
last_call p past last (Frame a f n) number reply = last_after p past last a f number reply
last_call p past last (Read a n) number reply = last

-- all that is known before a call: what the past tells, the last reply, the flash and the count
pub record Known : Type 0 where
  pub past : Past
  pub last : List ℕ
  pub flash : List ℕ
  pub count : ℕ

-- before the first call
abbrev pub initially : List ℕ → ℕ → Known
initially d count = record { past = initial_past; last = []; flash = d; count = count }

-- after a step
abbrev pub after : Profile → Known → Step → Known
after p k s = record {
  past = after_call p k.past s.call s.number s.reply;
  last = last_call p k.past k.last s.call s.number s.reply;
  flash = s.flash;
  count = s.count;
}

-- what should be known of a state of the rules, over a flash
abbrev pub past_of : State → Past
past_of s = record { running = s.running; address = s.address; next = s.upload.next }

abbrev pub known_of : State → List ℕ → Known
known_of s d = record { past = past_of s; last = s.last; flash = d; count = s.upload.count }
