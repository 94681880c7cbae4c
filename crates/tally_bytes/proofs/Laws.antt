-- Both ways of a tally: a counter's two bytes say it, and two bytes are those of the counter that they say.
use mathlib.Core.Path.{◌≡◌, sym, ap, ◌∙◌}
use mathlib.Core.Bool.{Bool, true, false}
use mathlib.Core.List.{List, ◌∷◌}
use Prim.Native.Nat.{ℕ, ◌+◌, ◌*◌, ◌/◌, ◌%◌, ◌^◌, ◌≤◌, ◌<◌}
use native.Mathlib.Omega.{arith}
use lib.Dec.{eqb}
use lib.ListN.{length, drop, get_or}
use lib.Seq.{drop-cons}
use borrow.Author.Tests.{le-leb, lt-leb}
use Rattle.rules.specs.Numbers.{laid}
use Rattle.tally.specs.declared.Tally.{Tally}
use Rattle.tally.specs.Tally.{more, tallied}
use Rattle.fields.specs.Fields.{Bytes}
use Rattle.fields.proofs.Laws.{drop_four}
use Rattle.tally_bytes.specs.TallyBytes.{tally_size, counter_at, tally_at, tally_bytes, tally_left}
use Rattle.tally_bytes.specs.BothWays.{TallyFits, BothWays}

pub left_short : (b : List ℕ) (number : ℕ) → length b < tally_size → tally_left b number ≡ b
unfolding tally_left
left_short b number h = rw (lt-leb _ _ h)

pub left-counted : (b : List ℕ) (number : ℕ) → tally_size ≤ length b
    → tally_left b number ≡ laid (tally_bytes (tallied (tally_at b) number)) b
unfolding tally_left
left-counted b number h = rw (le-leb _ _ h)

-- a counter and its two bytes
low_high : (n : ℕ) → n % 256 + n / 256 * 256 ≡ n
low_high n = omega arith

low_of : (a b : ℕ) → a < 256 → (a + b * 256) % 256 ≡ a
low_of a b h = omega arith

high_of : (a b : ℕ) → a < 256 → (a + b * 256) / 256 ≡ b
high_of a b h = omega arith

tally_read : (t : Tally) (b : List ℕ) → tally_at (laid (tally_bytes t) b) ≡ t
tally_read t b =
    rw (low_high t.short, low_high t.long, low_high t.sum, low_high t.foreign, low_high t.answered)

-- the first bytes of a list, written out
ten_bytes : (b : List ℕ) → tally_size ≤ length b
    → get_or b 0 0 ∷ get_or b 1 0 ∷ get_or b 2 0 ∷ get_or b 3 0 ∷ get_or b 4 0 ∷ get_or b 5 0 ∷ get_or b 6 0 ∷ get_or b 7 0 ∷ get_or b 8 0 ∷ get_or b 9 0
    ∷ drop 10 b ≡ b
ten_bytes b room =
    sym (drop_four b 0 (omega arith)
    ∙ ap (λ (l : List ℕ). get_or b 0 0 ∷ get_or b 1 0 ∷ get_or b 2 0 ∷ get_or b 3 0 ∷ l)
    (drop_four b 4 (omega arith)
    ∙ ap (λ (l : List ℕ). get_or b 4 0 ∷ get_or b 5 0 ∷ get_or b 6 0 ∷ get_or b 7 0 ∷ l)
    (drop-cons b 8 0 (omega arith) ∙ ap (λ (l : List ℕ). get_or b 8 0 ∷ l) (drop-cons b 9 0 (omega arith)))))

tally_kept : (b : List ℕ) → Bytes b → tally_size ≤ length b → laid (tally_bytes (tally_at b)) b ≡ b
tally_kept b bytes room =
    rw (
      low_of (get_or b 0 0) (get_or b 1 0) (bytes 0),
      high_of (get_or b 0 0) (get_or b 1 0) (bytes 0),
      low_of (get_or b 2 0) (get_or b 3 0) (bytes 2),
      high_of (get_or b 2 0) (get_or b 3 0) (bytes 2),
      low_of (get_or b 4 0) (get_or b 5 0) (bytes 4),
      high_of (get_or b 4 0) (get_or b 5 0) (bytes 4),
      low_of (get_or b 6 0) (get_or b 7 0) (bytes 6),
      high_of (get_or b 6 0) (get_or b 7 0) (bytes 6),
      low_of (get_or b 8 0) (get_or b 9 0) (bytes 8),
      high_of (get_or b 8 0) (get_or b 9 0) (bytes 8),
    )
    (ten_bytes b room)

-- a counter of two bytes has 16 bits, and so has one that rose
counter_fits : (b : List ℕ) (at : ℕ) → Bytes b → counter_at b at < 2 ^ 16
counter_fits b at bytes = omega (arith, bytes at, bytes (at + 1))

more_fits : (counts : Bool) (n : ℕ) → n < 2 ^ 16 → more counts n < 2 ^ 16
more_fits true n h = omega arith
more_fits false n h = h

tally_fits : (b : List ℕ) → Bytes b → TallyFits (tally_at b)
tally_fits b bytes = record {
  short = counter_fits b 0 bytes;
  long = counter_fits b 2 bytes;
  sum = counter_fits b 4 bytes;
  foreign = counter_fits b 6 bytes;
  answered = counter_fits b 8 bytes;
}

tallied_fits : (t : Tally) (number : ℕ) → TallyFits t → TallyFits (tallied t number)
tallied_fits t number fits = record {
  short = more_fits (eqb number 15) t.short fits.short;
  long = more_fits (eqb number 16) t.long fits.long;
  sum = more_fits (eqb number 17) t.sum fits.sum;
  foreign = more_fits (eqb number 18) t.foreign fits.foreign;
  answered = more_fits (eqb number 0) t.answered fits.answered;
}

pub both_ways : BothWays
both_ways = record {
  tally_read = tally_read;
  tally_kept = tally_kept;
  tally_fits = λ b number bytes. (tally_fits b bytes, tallied_fits (tally_at b) number (tally_fits b bytes));
  counted = λ b number room. ap tally_at (left-counted b number room) ∙ tally_read (tallied (tally_at b) number) b;
  too_short = left_short;
}
