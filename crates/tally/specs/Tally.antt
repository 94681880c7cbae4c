-- The tally of received frames: five counters, each of 16 bits and stopping at 65,535, of which the answer's number picks one.
use Rattle.std.specs.Prelude.{Bool, cond, ℕ, ◌+◌, min, eqb}
use Rattle.tally.specs.declared.Tally.{Tally}

-- where a counter stops
abbrev pub largest_count : ℕ
largest_count = 65535

-- a counter after a frame: one more where the frame is of its kind
abbrev pub more : Bool → ℕ → ℕ
more counts n = cond counts (min (n + 1) largest_count) n

-- no frame counted yet
abbrev pub cleared : Tally
cleared = record { short = 0; long = 0; sum = 0; foreign = 0; answered = 0 }

-- the tally after a frame that was answered by a number: 15 too short, 16 too long, 17 wrong CRC, 18 foreign address, 0 answered
abbrev pub tallied : Tally → ℕ → Tally
tallied t number =
    record {
      short = more (eqb number 15) t.short;
      long = more (eqb number 16) t.long;
      sum = more (eqb number 17) t.sum;
      foreign = more (eqb number 18) t.foreign;
      answered = more (eqb number 0) t.answered;
    }
