-- Boards of the rules that keep a wrong tally: each with one error.
use Rattle.std.specs.Prelude.{false, cond, ◌&&◌, List, ℕ, eqb}
use Rattle.rules.specs.Profile.{Profile}
use Rattle.rules.specs.State.{State, with_running}
use Rattle.rules.specs.Frames.{is_general, reset_frame}
use Rattle.rules.specs.Board.{read_out}
use Rattle.ledger.specs.Calls.{Call, Frame, Read, ruled}
use Rattle.tally.specs.declared.Tally.{Tally}
use Rattle.tally.specs.Tally.{cleared, tallied}
use Rattle.tally_claims.specs.Counting.{CountingBoard, call_tallied}

abbrev pub counting_by : (Profile → State → List ℕ → Tally → Call → Tally) → CountingBoard
counting_by tally = record { board = ruled; tally = tally }

-- its counter of short frames wraps to 0
abbrev pub wraps : CountingBoard
wraps =
    counting_by (λ p s d t c.
    let u : Tally = call_tallied p s d t c in
    record {
      short = cond (eqb t.short 65535 && eqb u.short 65535) 0 u.short;
      long = u.long;
      sum = u.sum;
      foreign = u.foreign;
      answered = u.answered;
    })

-- an I²C read that is answered 0 counts as a frame
abbrev pub read_tallied : Profile → State → List ℕ → Tally → Call → Tally
read_tallied p s d t (Frame a f n) = call_tallied p s d t (Frame a f n)
read_tallied p s d t (Read a n) = tallied t (read_out p s a d n).number

abbrev pub counts_reads : CountingBoard
counts_reads = counting_by read_tallied

-- while running it counts as if it weren't
abbrev pub counts_running : CountingBoard
counts_running = counting_by (λ p s d t c. call_tallied p (with_running s false) d t c)

-- a reset clears it
abbrev pub reset_tallied : Profile → State → List ℕ → Tally → Call → Tally
reset_tallied p s d t (Frame a f n) = cond (is_general p.bus a f (reset_frame p.bus)) cleared (call_tallied p s d t (Frame a f n))
reset_tallied p s d t (Read a n) = t

abbrev pub reset_clears : CountingBoard
reset_clears = counting_by reset_tallied
