-- W4: what the reset for a running application does to the boards of its bus, and that no bootloader is taken for a running application.
use Rattle.std.specs.Prelude.{◌≡◌, true, List, [], ◌∷◌, ℕ, ◌≤◌, ◌<◌, length}
use Rattle.rules.specs.declared.kinds.Bus.{Bus}
use Rattle.rules.specs.declared.kinds.Address.TheVariants.{DefaultRange}
use Rattle.rules.specs.declared.requests.Request.TheVariants.{Plain, Reset}
use Rattle.rules.specs.Profile.{Profile, frame_in_range}
use Rattle.rules.specs.State.{State}
use Rattle.rules.specs.Numbers.{refusal}
use Rattle.rules.specs.Frames.{reset_frame, addressed, destination, command_of}
use Rattle.rules.specs.Responses.{ok}
use Rattle.rules.specs.Board.{Called, received}
use Rattle.rules.specs.Master.{Decoding, decoded, results_in, encoded, version_rule, running_reset}
use Rattle.ledger.specs.Calls.{Frame, Read, Reaction, Board}
use Rattle.roundtrip.specs.Sending.{Sending, Beside}
use Rattle.roundtrip.specs.Exchanges as exchange
use Rattle.roundtrip.specs.Exchanges.{Ok, results}

-- what the reset call is given: bus, M, the version that a board answered, and how long the lent output is
pub record ResetInput : Type 0 where
  pub bus : Bus
  pub longest : ℕ
  pub major : ℕ
  pub minor : ℕ
  pub room : ℕ

-- the reset is written
abbrev pub Written : ResetInput → Type 0
Written q = (running_reset q.bus q.longest q.major q.minor q.room).number ≡ 0

-- its bytes
abbrev pub reset_bytes : ResetInput → List ℕ
reset_bytes q = (running_reset q.bus q.longest q.major q.minor q.room).bytes

-- the version is 0.0, and the bytes are the encoder's reset
pub record EncodersReset (q : ResetInput) : Type 0 where
  pub major_is : q.major ≡ 0
  pub minor_is : q.minor ≡ 0
  pub bytes_are : reset_bytes q ≡ (encoded q.bus q.longest Reset 0 [] q.room).bytes

-- written for 0.0 alone; and always then, with an M in range and room for it
pub record WrittenForRunning : Type 0 where
  pub only : (q : ResetInput) → Written q → EncodersReset q
  pub always :
      (q : ResetInput) → frame_in_range q.longest ≡ true → q.major ≡ 0 → q.minor ≡ 0 → length (reset_frame q.bus) ≤ q.room → Written q

-- over any board: sent as a general call, on I²C to address 0, it resets every board of that bus that answers none of 2 to 5, running or
-- not: no reply, the fresh state, the flash as before
abbrev pub ResetsBoards : Board → Type 0
ResetsBoards B =
    (q : ResetInput) (p : Profile) (s : B.Kept) (d : List ℕ) (a n : ℕ) → Written q → p.bus ≡ q.bus → Beside q.bus a 0
    → (B.call p s d (Frame a (reset_bytes q) n)).number < 2
    → B.call p s d (Frame a (reset_bytes q) n) ≡ record { number = 1; reply = []; state = B.fresh; flash = d }

-- what the master reads in a reply to a version request that it sent to an address
abbrev pub read_version : Bus → ℕ → List ℕ → Decoding
read_version bus to reply = decoded bus 0x00 to 0 reply

-- a reply that decodes to OK says a known version
abbrev pub SaysKnown : Bus → ℕ → List ℕ → Type 0
SaysKnown bus to reply =
    (major minor : ℕ) (more : List ℕ) → (read_version bus to reply).number ≡ 0 → (read_version bus to reply).status ≡ ok
    → results_in (read_version bus to reply) reply ≡ major ∷ minor ∷ more
    → (version_rule major minor).number ≡ 0

-- over any board: what it replies to a frame with the version command, and what an I²C read after such a reply gives, says a known
-- version: it is never taken for a running application's
pub record BootloaderKnown (B : Board) : Type 0 where
  pub replied :
      (p : Profile) (s : B.Kept) (d : List ℕ) (a : ℕ) (f : List ℕ) (n : ℕ) → command_of p.bus f ≡ 0x00
      → SaysKnown p.bus (destination p.bus a f) (B.call p s d (Frame a f n)).reply
  pub read :
      (p : Profile) (s : B.Kept) (d : List ℕ) (a : ℕ) (f : List ℕ) (n b m : ℕ) → command_of p.bus f ≡ 0x00
      → (B.call p s d (Frame a f n)).number ≡ 0
      → let r : Reaction B.Kept = B.call p s d (Frame a f n) in
      SaysKnown p.bus b (B.call p r.state r.flash (Read b m)).reply

-- the version request to an address, after a call
abbrev pub asked_again : Profile → Called → ℕ → ℕ → Sending
asked_again p c to n =
    exchange.sending (record { profile = p; to = to; buffer = n }) (record { state = c.state; flash = c.flash })
    (record { request = Plain 0x00; bytes = [] })

-- a board that was reset answers the next version request, at every address of the default range, and the master reads 2.2
abbrev pub AnswersAgain : Type 0
AnswersAgain =
    (q : ResetInput) (p : Profile) (s : State) (d : List ℕ) (a n to : ℕ) → Written q → p.bus ≡ q.bus → Beside q.bus a 0
    → refusal p s (length d) n ≡ 0 → addressed p.bus DefaultRange to ≡ true
    → let x : Sending = asked_again p (received p s a (reset_bytes q) d n) to n in
    Ok x × (results x ≡ 2 ∷ 2 ∷ [])
