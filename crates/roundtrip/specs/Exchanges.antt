-- A master that sends one request after another to a board and reads each answer.
use Rattle.std.specs.Prelude.{◌≡◌, true, false, List, [], ◌∷◌, ◌++◌, ℕ, ◌≤◌, length, get_or}
use Rattle.rules.specs.declared.kinds.Bus.{Bus}
use Rattle.rules.specs.declared.kinds.Bus.TheVariants.{I2c, Rs485}
use Rattle.rules.specs.declared.requests.Request.{Request}
use Rattle.rules.specs.Profile.{Profile}
use Rattle.rules.specs.State.{State}
use Rattle.rules.specs.Numbers.{refusal}
use Rattle.rules.specs.Frames.{addressed, command_of, arguments_of}
use Rattle.rules.specs.Responses.{ok}
use Rattle.rules.specs.Board.{Called, read_out}
use Rattle.rules.specs.Master.{Decoding, decoded, results_in}
use Rattle.roundtrip.specs.Sending.{Sending, bus, encoding, frame, call}

-- one board on a bus: its profile, the address that the master sends to, and how long the buffers of both sides are
pub record Line : Type 0 where
  pub profile : Profile
  pub to : ℕ
  pub buffer : ℕ

-- the board between two requests
pub record Board : Type 0 where
  pub state : State
  pub flash : List ℕ

-- it isn't running, answers none of 2 to 5, and has the address, which is a byte
pub record Ready (l : Line) (b : Board) : Type 0 where
  pub none_refused : refusal l.profile b.state (length b.flash) l.buffer ≡ 0
  pub stopped : b.state.running ≡ false
  pub heard : addressed l.profile.bus b.state.address l.to ≡ true
  pub byte : l.to ≤ 255

-- a request with its data bytes
pub record Message : Type 0 where
  pub request : Request
  pub bytes : List ℕ

abbrev pub sending : Line → Board → Message → Sending
sending l b m = record {
  request = m.request;
  to = l.to;
  bytes = m.bytes;
  room = l.buffer;
  profile = l.profile;
  state = b.state;
  flash = b.flash;
  buffer = l.buffer;
  beside = l.to;
}

-- the answer reaches the master: on I²C it is read at the same address
abbrev pub fetched : Bus → Sending → Called
fetched I2c x = read_out x.profile (call x).state x.to (call x).flash x.buffer
fetched Rs485 x = call x

abbrev pub answer : Sending → Called
answer x = fetched (bus x) x

-- the board afterwards
abbrev pub after : Sending → Board
after x = record { state = (answer x).state; flash = (answer x).flash }

-- what the master reads: the decoder gets the command of the frame that was sent, and its third argument byte, of a read the length asked
abbrev pub decoding : Sending → Decoding
decoding x = decoded (bus x) (command_of (bus x) (frame x)) x.to (get_or (arguments_of (bus x) (frame x)) 2 0) (answer x).reply

abbrev pub results : Sending → List ℕ
results x = results_in (decoding x) (answer x).reply

-- the encoder makes the request, and the answer decodes to OK
pub record Ok (x : Sending) : Type 0 where
  pub made : (encoding x).number ≡ 0
  pub decodes : (decoding x).number ≡ 0
  pub status_ok : (decoding x).status ≡ ok

-- one request after another, each to the board as the one before left it
unfoldable pub exchanges : Line → Board → List Message → List Sending
exchanges l b [] = []
exchanges l b (m ∷ ms) = sending l b m ∷ exchanges l (after (sending l b m)) ms

-- the board after them
unfoldable pub left : Line → Board → List Message → Board
left l b [] = b
left l b (m ∷ ms) = left l (after (sending l b m)) ms

abbrev pub EachOk : List Sending → Type 0
EachOk [] = Unit
EachOk (x ∷ xs) = Ok x × EachOk xs

-- the results of all of them, joined
unfoldable pub all_results : List Sending → List ℕ
all_results [] = []
all_results (x ∷ xs) = results x ++ all_results xs
