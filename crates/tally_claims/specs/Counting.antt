-- W3, the tally over every list of calls, of any board that keeps one.
use Rattle.std.specs.Prelude.{◌≡◌, cond, List, [], ◌∷◌, ◌++◌, ℕ, ◌+◌, ◌≤◌, min, eqb}
use Rattle.rules.specs.declared.kinds.Bus.TheVariants.{I2c}
use Rattle.rules.specs.Profile.{Profile}
use Rattle.rules.specs.State.{State}
use Rattle.rules.specs.Board.{received}
use Rattle.ledger.specs.Calls.{Call, Frame, Read, Reaction, Board, ruled}
use Rattle.tally.specs.declared.Tally.{Tally}
use Rattle.tally.specs.Tally.{largest_count, tallied}

-- each counter of a tally is at most the same counter of another
pub record AtMost (t u : Tally) : Type 0 where
  pub short : t.short ≤ u.short
  pub long : t.long ≤ u.long
  pub sum : t.sum ≤ u.sum
  pub foreign : t.foreign ≤ u.foreign
  pub answered : t.answered ≤ u.answered

-- a tally of counters that all stand at their limit
abbrev pub full : Tally
full = record { short = largest_count; long = largest_count; sum = largest_count; foreign = largest_count; answered = largest_count }

-- how often a number stands in a list
abbrev pub occurrences : ℕ → List ℕ → ℕ
occurrences n [] = 0
occurrences n (m ∷ ms) = cond (eqb m n) 1 0 + occurrences n ms

-- each counter: the smaller of 65,535 and its start plus the number of frames answered so
abbrev pub summed : Tally → List ℕ → Tally
summed t numbers = record {
  short = min (t.short + occurrences 15 numbers) largest_count;
  long = min (t.long + occurrences 16 numbers) largest_count;
  sum = min (t.sum + occurrences 17 numbers) largest_count;
  foreign = min (t.foreign + occurrences 18 numbers) largest_count;
  answered = min (t.answered + occurrences 0 numbers) largest_count;
}

-- any board that keeps a tally: a board, and the tally that a call leaves, by profile, state, flash, tally and call
pub record CountingBoard : Type 1 where
  pub board : Board
  pub tally : Profile → board.Kept → List ℕ → Tally → Call → Tally

-- one call of a list, written down: its number, and the tally that it left
pub record Noted : Type 0 where
  pub call : Call
  pub number : ℕ
  pub tally : Tally

-- each call takes state, flash and tally from the one before
module _ (B : CountingBoard) (p : Profile) where
  unfoldable pub noted : B.board.Kept → List ℕ → Tally → List Call → List Noted
  noted s d t [] = []
  noted s d t (c ∷ cs) =
      let r : Reaction B.board.Kept = B.board.call p s d c in
      let u : Tally = B.tally p s d t c in
      record { call = c; number = r.number; tally = u } ∷ noted r.state r.flash u cs

-- the numbers of the received frames; an I²C read is none
abbrev pub frame_number : Call → ℕ → List ℕ
frame_number (Frame a f n) number = number ∷ []
frame_number (Read a n) number = []

abbrev pub frame_numbers : List Noted → List ℕ
frame_numbers [] = []
frame_numbers (s ∷ ss) = frame_number s.call s.number ++ frame_numbers ss

-- the tally that a list left
abbrev pub last_tally : Tally → List Noted → Tally
last_tally t [] = t
last_tally t (s ∷ ss) = last_tally s.tally ss

-- no call makes a counter fall
abbrev pub Rising : Tally → List Noted → Type 0
Rising t [] = Unit
Rising t (s ∷ ss) = AtMost t s.tally × Rising s.tally ss

-- what holds of a list that began with the tally t
pub record TallyHolds (p : Profile) (t : Tally) (ss : List Noted) : Type 0 where
  pub counts : last_tally t ss ≡ summed t (frame_numbers ss)
  pub rising : Rising t ss
  -- on I²C only the counter of frames answered 0 rises
  pub only_answered : p.bus ≡ I2c
      → ((last_tally t ss).short ≡ t.short) × ((last_tally t ss).long ≡ t.long) × ((last_tally t ss).sum ≡ t.sum)
      × ((last_tally t ss).foreign ≡ t.foreign)

-- for every list of calls, from any state, flash and tally of 16-bit counters, under any profile
abbrev pub TallyRight : CountingBoard → Type 0
TallyRight B =
    (p : Profile) (s : B.board.Kept) (d : List ℕ) (t : Tally) (cs : List Call) → AtMost t full → TallyHolds p t (noted B p s d t cs)

-- the tally after a call of the rules' board; an I²C read doesn't count
abbrev pub call_tallied : Profile → State → List ℕ → Tally → Call → Tally
call_tallied p s d t (Frame a f n) = tallied t (received p s a f d n).number
call_tallied p s d t (Read a n) = t

-- the rules' board with its tally
abbrev pub ruled_tally : CountingBoard
ruled_tally = record { board = ruled; tally = call_tallied }
