-- childbus_receive_tally: all that childbus_receive answers and leaves, whatever the tally is, and the tally's bytes.
use Rattle.std.specs.Prelude.{List, ℕ}
use Rattle.tally_bytes.specs.TallyBytes.{tally_left}
use Rattle.childbus_board.specs.BoardBytes.{ReceivedLeft, received_left}

pub record CountedLeft : Type 0 where
  pub received : ReceivedLeft
  pub tally : List ℕ

-- counted by the number that is answered
abbrev pub counted_by : ReceivedLeft → List ℕ → CountedLeft
counted_by l tally = record { received = l; tally = tally_left tally l.number }

abbrev pub counted_left : List ℕ → List ℕ → ℕ → List ℕ → List ℕ → List ℕ → List ℕ → CountedLeft
counted_left profile state address frame flash out tally = counted_by (received_left profile state address frame flash out) tally
