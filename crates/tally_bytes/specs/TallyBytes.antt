-- The tally in bytes: which tally they say, and what a counted frame leaves in them.
use Rattle.std.specs.Prelude.{cond, List, ◌++◌, ℕ, ◌+◌, ◌*◌, leb, length, get_or}
use Rattle.rules.specs.Bytes.{low_first}
use Rattle.rules.specs.Numbers.{laid}
use Rattle.tally.specs.declared.Tally.{Tally}
use Rattle.tally.specs.Tally.{tallied}

-- `TALLY_BYTES`
abbrev pub tally_size : ℕ
tally_size = 10

-- the counter in two bytes from a place on, low byte first
abbrev pub counter_at : List ℕ → ℕ → ℕ
counter_at b at = get_or b at 0 + get_or b (at + 1) 0 * 256

-- the tally that ten bytes say
abbrev pub tally_at : List ℕ → Tally
tally_at b = record {
  short = counter_at b 0;
  long = counter_at b 2;
  sum = counter_at b 4;
  foreign = counter_at b 6;
  answered = counter_at b 8;
}

-- the bytes of a tally
abbrev pub tally_bytes : Tally → List ℕ
tally_bytes t = low_first t.short ++ low_first t.long ++ low_first t.sum ++ low_first t.foreign ++ low_first t.answered

-- a buffer after a frame that was answered by a number; one that is too short is no tally and stays as it was
unfoldable pub tally_left : List ℕ → ℕ → List ℕ
tally_left b number = cond (leb tally_size (length b)) (laid (tally_bytes (tallied (tally_at b) number)) b) b
