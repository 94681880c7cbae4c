-- W3 of the C boundary: the tally's bytes over a list of childbus_receive_tally and childbus_read, each with the state bytes, the flash and
-- the tally that the last one left.
use Rattle.std.specs.Prelude.{◌≡◌, List, [], ◌∷◌, ◌++◌, ℕ, ◌≤◌, ◌<◌, length, drop}
use Rattle.fields.specs.Fields.{Bytes}
use Rattle.tally_bytes.specs.TallyBytes.{tally_size, tally_at}
use Rattle.tally_claims.specs.Counting.{summed}
use Rattle.childbus_board.specs.TallyCall.{counted_left}
use Rattle.boundary_claims.specs.Calls.{Call, Receive, Read, Left, left}

-- the tally that a call leaves; a read is lent none
abbrev pub tally_call : List ℕ → List ℕ → List ℕ → List ℕ → Call → List ℕ
tally_call profile state flash tally (Receive a f out) = (counted_left profile state a f flash out tally).tally
tally_call profile state flash tally (Read a out) = tally

-- the tally that a list leaves
unfoldable pub tally_after : List ℕ → List ℕ → List ℕ → List ℕ → List Call → List ℕ
tally_after profile state flash tally [] = tally
tally_after profile state flash tally (c ∷ cs) =
    let l : Left = left profile state flash c in tally_after profile l.state l.flash (tally_call profile state flash tally c) cs

-- the numbers of the received frames
abbrev pub number_of : Call → ℕ → List ℕ
number_of (Receive a f out) number = number ∷ []
number_of (Read a out) number = []

unfoldable pub numbers_of : List ℕ → List ℕ → List ℕ → List Call → List ℕ
numbers_of profile state flash [] = []
numbers_of profile state flash (c ∷ cs) =
    let l : Left = left profile state flash c in number_of c l.number ++ numbers_of profile l.state l.flash cs

pub record TallyCounted (tally after numbers : List ℕ) : Type 0 where
  -- each counter is the smaller of 65,535 and its start plus the number of frames answered so
  pub counts : tally_size ≤ length tally → tally_at after ≡ summed (tally_at tally) numbers
  -- bytes past the tally are never touched, and a buffer that is too short is not touched at all
  pub rest : drop tally_size after ≡ drop tally_size tally
  pub too_short : length tally < tally_size → after ≡ tally

-- any bytes as profile, state, flash and tally, any list of calls
abbrev pub BoundaryCounts : Type 0
BoundaryCounts =
    (profile state flash tally : List ℕ) (cs : List Call) → Bytes tally
    → TallyCounted tally (tally_after profile state flash tally cs) (numbers_of profile state flash cs)
