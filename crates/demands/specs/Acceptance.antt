-- Demand 2 over any board: what a call gets, by what is known before it.
use Rattle.std.specs.Prelude.{◌≡◌, Bool, true, false, cond, not, ◌&&◌, List, [], ◌∷◌, ℕ, ◌+◌, ◌-◌, ◌≤◌, eqb, leb, ltb, length, take}
use Rattle.std.specs.Prelude.{drop, get_or}
use Rattle.rules.specs.declared.kinds.Bus.{Bus}
use Rattle.rules.specs.declared.kinds.Bus.TheVariants.{I2c, Rs485}
use Rattle.rules.specs.Profile.{Profile, in_range}
use Rattle.rules.specs.State.{State, well_formed}
use Rattle.rules.specs.CheckSums.{sum_right}
use Rattle.rules.specs.Frames.{reply, destination, answers_to, addressed, is_general, reset_frame, command_of, arguments_of, number_at}
use Rattle.rules.specs.Frames.{two_bytes}
use Rattle.rules.specs.Responses.{ok, invalid_arguments}
use Rattle.rules.specs.Commands.{address_taken, reserved, type_matches, accepted, readable}
use Rattle.ledger.specs.Ledger.{Ledger}
use Rattle.ledger.specs.Calls.{Call, Frame, Read, Board, Step, calls, ruled, stepped, traced}
use Rattle.demands.specs.Past.{Past, Known, initially, known_of, well_framed, after}

-- a write in order and in range: its two-byte address is 0 or next, and its data don't run past S
abbrev pub in_order : Profile → Past → List ℕ → Bool
in_order p past f =
    leb 2 (length (arguments_of p.bus f))
    && accepted p.size past.next (number_at (arguments_of p.bus f) 0) (length (arguments_of p.bus f) - 2)

-- set address: the address that it would take, and the status for a board of its type: a reserved one is refused, any other is taken
abbrev pub new_address : Bus → List ℕ → ℕ
new_address bus f = address_taken bus (get_or (arguments_of bus f) 0 0)

abbrev pub address_status : Bus → List ℕ → ℕ
address_status bus f = cond (reserved bus (new_address bus f)) invalid_arguments ok

-- W3: the number of a frame that is dropped, on RS485 while not running: too short, too long, wrong CRC, another board's address, the
-- first of these that applies; 0 for any other frame. Address 0 is never foreign
abbrev pub dropped : Bus → ℕ → Past → List ℕ → ℕ
dropped I2c M past f = 0
dropped Rs485 M past f =
    cond past.running 0
    (cond (ltb (length f) 4) 15
    (cond (ltb M (length f)) 16
    (cond (not (sum_right Rs485 f)) 17
    (cond (not (eqb (get_or f 0 0) 0) && not (answers_to past.address (get_or f 0 0))) 18 0))))

-- the step answers 0 with this status and these results
pub record Answers (p : Profile) (s : Step) (a : ℕ) (f : List ℕ) (status : ℕ) (results : List ℕ) : Type 0 where
  pub number_is : s.number ≡ 0
  pub reply_is : s.reply ≡ reply p.bus (destination p.bus a f) status results

-- flash and count are as they were known before
pub record Unchanged (k : Known) (s : Step) : Type 0 where
  pub flash_is : s.flash ≡ k.flash
  pub count_is : s.count ≡ k.count

-- a frame into a reply buffer of n bytes
pub record FrameRight (p : Profile) (k : Known) (s : Step) (a : ℕ) (f : List ℕ) (n : ℕ) : Type 0 where
  -- every well-framed write to this board in order and in range is accepted
  pub accepts :
      p.longest ≤ n → well_framed p k.past a f ≡ true → command_of p.bus f ≡ 0x06 → in_order p k.past f ≡ true
      → Answers p s a f ok []
  -- its other well-framed ones are refused by name, and leave the upload as it was
  pub refuses :
      p.longest ≤ n → well_framed p k.past a f ≡ true → command_of p.bus f ≡ 0x06 → in_order p k.past f ≡ false
      → Answers p s a f invalid_arguments [] × Unchanged k s
  -- finalize: OK, with the count in two results
  pub finalizes :
      p.longest ≤ n → well_framed p k.past a f ≡ true → command_of p.bus f ≡ 0x07 → arguments_of p.bus f ≡ []
      → Answers p s a f ok (two_bytes s.count)
  -- version: results 2, 2
  pub versions :
      p.longest ≤ n → well_framed p k.past a f ≡ true → command_of p.bus f ≡ 0x00 → arguments_of p.bus f ≡ []
      → Answers p s a f ok (2 ∷ 2 ∷ [])
  -- read shows flash
  pub reads :
      p.longest ≤ n → well_framed p k.past a f ≡ true → command_of p.bus f ≡ 0x08 → length (arguments_of p.bus f) ≡ 3
      → readable p (number_at (arguments_of p.bus f) 0) (get_or (arguments_of p.bus f) 2 0) ≡ true
      → Answers p s a f ok (take (get_or (arguments_of p.bus f) 2 0) (drop (p.offset + number_at (arguments_of p.bus f) 0) k.flash))
  -- set address for this board's type says so, and another type gets no reply; neither changes flash or count
  pub moves :
      p.longest ≤ n → well_framed p k.past a f ≡ true → command_of p.bus f ≡ 0x01 → length (arguments_of p.bus f) ≡ 2
      → type_matches p (get_or (arguments_of p.bus f) 1 0) ≡ true
      → Answers p s a f (address_status p.bus f) [] × Unchanged k s
  pub other_type :
      p.longest ≤ n → well_framed p k.past a f ≡ true → command_of p.bus f ≡ 0x01 → length (arguments_of p.bus f) ≡ 2
      → type_matches p (get_or (arguments_of p.bus f) 1 0) ≡ false
      → (s.number ≡ 1) × Unchanged k s
  -- a dropped frame gets its number and no reply, and changes nothing; no other frame gets a number of 2 or above
  pub drops :
      p.longest ≤ n → (dropped p.bus p.longest k.past f ≡ 0 → ⊥)
      → (s.number ≡ dropped p.bus p.longest k.past f) × (s.reply ≡ []) × Unchanged k s
  pub takes : p.longest ≤ n → dropped p.bus p.longest k.past f ≡ 0 → s.number ≤ 1
  -- after start every frame but the reset answers 1 and changes nothing
  pub started :
      p.longest ≤ n → k.past.running ≡ true → is_general p.bus a f (reset_frame p.bus) ≡ false → (s.number ≡ 1) × Unchanged k s

-- an I²C read at an address of this board, not running, that has a last reply
abbrev pub last_readable : Bus → Known → ℕ → Bool
last_readable I2c k a = not k.past.running && (addressed I2c k.past.address a && not (eqb (length k.last) 0))
last_readable Rs485 k a = false

-- a read into a buffer of n bytes
pub record ReadRight (p : Profile) (k : Known) (s : Step) (a n : ℕ) : Type 0 where
  -- it hands out the last reply
  pub hands_out : p.longest ≤ n → last_readable p.bus k a ≡ true → (s.number ≡ 0) × (s.reply ≡ k.last)
  -- in any other case it answers 1
  pub silence : p.longest ≤ n → last_readable p.bus k a ≡ false → s.number ≡ 1
  -- and it changes nothing
  pub keeps : Unchanged k s

abbrev pub CallRight : Profile → Known → Step → Call → Type 0
CallRight p k s (Frame a f n) = FrameRight p k s a f n
CallRight p k s (Read a n) = ReadRight p k s a n

-- every step of a list is right after the steps before it
abbrev pub AllRight : Profile → Known → List Step → Type 0
AllRight p k [] = Unit
AllRight p k (s ∷ ss) = CallRight p k s s.call × AllRight p (after p k s) ss

-- for every list of calls from the fresh board, where numbers 2 and 3 do not apply (and 5 not to the call itself)
abbrev pub Demand2 : Board → Type 0
Demand2 B =
    (p : Profile) (d : List ℕ) (cs : List Call) → in_range p ≡ true → p.offset + p.size ≤ length d
    → AllRight p (initially d (B.count B.fresh)) (traced B p d cs)

-- the same of one call on any well-formed state, however it came about
abbrev pub StateRight : Type 0
StateRight =
    (p : Profile) (s : State) (d : List ℕ) (k : Ledger) (c : Call) → in_range p ≡ true → well_formed p s ≡ true
    → p.offset + p.size ≤ length d
    → CallRight p (known_of s d) (stepped ruled p k c (calls p s d c)) c
