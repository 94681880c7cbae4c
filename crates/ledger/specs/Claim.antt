-- Demand 3, as one claim about the whole list of calls, stated over any board.
use Rattle.std.specs.Prelude.{◌≡◌, ◌⊎◌, Bool, true, false, cond, ◌&&◌, List, [], ◌∷◌, ◌++◌, ℕ, ◌+◌, ◌/◌, ◌<◌, ◌≤◌, eqb, length, get_or}
use Rattle.rules.specs.Profile.{Profile}
use Rattle.rules.specs.Commit.{OutsideKept}
use Rattle.ledger.specs.Ledger.{is_write, is_finalize, write_address, write_data, count_bytes, high_low}
use Rattle.ledger.specs.Calls.{Call, Frame, Read, Board, Step, traced}

-- the step is an answered finalize
abbrev pub finalizing : Profile → Step → Call → Bool
finalizing p s (Frame a f n) = is_finalize p.bus f s.number s.reply
finalizing p s (Read a n) = false

abbrev pub finalize_step : Profile → Step → Bool
finalize_step p s = finalizing p s s.call

-- an accepted write: its address and its data
pub record Piece : Type 0 where
  pub address : ℕ
  pub bytes : List ℕ

abbrev pub writing : Profile → Step → Call → List Piece
writing p s (Frame a f n) =
    cond (is_write p.bus f s.number s.reply) (record { address = write_address p.bus f; bytes = write_data p.bus f } ∷ []) []
writing p s (Read a n) = []

-- the accepted writes of some steps, in order
unfoldable pub pieces : Profile → List Step → List Piece
pieces p [] = []
pieces p (s ∷ ss) = writing p s s.call ++ pieces p ss

-- each piece begins where the one before ended
abbrev pub follow : ℕ → List Piece → Bool
follow at [] = true
follow at (w ∷ ws) = eqb w.address at && follow (at + length w.bytes) ws

-- the first at 0, each next at the previous end
abbrev pub from_zero : List Piece → Bool
from_zero [] = false
from_zero (w ∷ ws) = eqb w.address 0 && follow (length w.bytes) ws

-- their data, joined
abbrev pub joined : List Piece → List ℕ
joined [] = []
joined (w ∷ ws) = w.bytes ++ joined ws

-- the bytes are accepted again in these steps, with no other accepted write between
pub record AcceptedAgain (p : Profile) (bytes : List ℕ) (steps : List Step) : Type 0 where
  pub from_zero_holds : from_zero (pieces p steps) ≡ true
  pub same_bytes : joined (pieces p steps) ≡ bytes

-- what holds at an answered finalize: n is the number of the ledger's accepted bytes just after it, "just before" its earlier copy
pub record Finished (p : Profile) (s : Step) : Type 0 where
  -- the reply's count is the ledger's
  pub reply_count : count_bytes p.bus s.reply ≡ high_low s.ledger.count
  -- the n bytes stand in flash from zero on
  pub bytes_stand : (i : ℕ) → i < length s.ledger.accepted → get_or s.flash (p.offset + i) 0 ≡ get_or s.ledger.accepted i 0
  -- every other byte is as just before
  pub others_kept : (i : ℕ) → (i < p.offset) ⊎ (p.offset + length s.ledger.accepted ≤ i)
      → get_or s.flash i 0 ≡ get_or s.ledger.earlier i 0
  pub length_kept : length s.flash ≡ length s.ledger.earlier

-- what holds after every call
pub record Right (p : Profile) (s : Step) : Type 0 where
  -- the flash equals the ledger's copy
  pub flash_is : s.flash ≡ s.ledger.copy
  -- the state's count is the ledger's count
  pub count_is : s.count ≡ s.ledger.count
  -- it is at most n
  pub count_bytes_holds : s.count ≤ length s.ledger.accepted
  -- and at most the number of whole pages in n, plus f
  pub count_pages : s.count ≤ length s.ledger.accepted / p.page + s.ledger.finals
  pub finished : finalize_step p s ≡ true → Finished p s

abbrev pub Every : (Step → Type 0) → List Step → Type 0
Every P [] = Unit
Every P (s ∷ ss) = P s × Every P ss

-- demand 3 of the steps of a whole list, whose flash was d at first
pub record Holds (p : Profile) (d : List ℕ) (steps : List Step) : Type 0 where
  pub each : Every (Right p) steps
  -- bytes outside O to O + S - 1 never change, at any step
  pub outside : Every (λ s. OutsideKept p d s.flash) steps
  -- the same upload again counts 0
  pub again :
      (before between after : List Step) (first second : Step) → steps ≡ before ++ first ∷ between ++ second ∷ after
      → finalize_step p first ≡ true → finalize_step p second ≡ true → AcceptedAgain p first.ledger.accepted between
      → count_bytes p.bus second.reply ≡ high_low 0

-- the claim: for every list of calls from the fresh board with any flash, under any one profile
abbrev pub Demand3 : Board → Type 0
Demand3 B = (p : Profile) (d : List ℕ) (cs : List Call) → Holds p d (traced B p d cs)
