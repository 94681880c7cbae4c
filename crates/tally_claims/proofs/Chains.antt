-- Notes in which each tally is the one before, counted by the frame's number: the claim on the counters follows.
use mathlib.Core.Path.{◌≡◌, refl, ap, ◌∙◌}
use mathlib.Core.List.{List, [], ◌∷◌, ◌++◌}
use Prim.Native.Nat.{ℕ, ◌≤◌, ◌<◌}
use native.Mathlib.Omega.{arith}
use borrow.Author.Tests.{ne_eqb}
use Rattle.rules.specs.declared.kinds.Bus.TheVariants.{I2c}
use Rattle.rules.specs.Profile.{Profile}
use Rattle.ledger.specs.Calls.{Call, Frame, Read}
use Rattle.tally.specs.declared.Tally.{Tally}
use Rattle.tally.specs.Tally.{tallied}
use Rattle.tally_claims.specs.Counting.{AtMost, full, occurrences, Noted, frame_number, frame_numbers, last_tally, Rising, TallyHolds}
use Rattle.tally_claims.proofs.Counters.{after, after-summed, tallied_least, tallied_most, at_most_refl, uncounted}

-- the tally that a call answered by a number leaves
abbrev pub note_tallied : Tally → Call → ℕ → Tally
note_tallied t (Frame a f n) number = tallied t number
note_tallied t (Read a n) number = t

abbrev pub Chained : Tally → List Noted → Type 0
Chained t [] = Unit
Chained t (s ∷ ss) = (s.tally ≡ note_tallied t s.call s.number) × Chained s.tally ss

note_least : (t : Tally) (c : Call) (number : ℕ) → AtMost t full → AtMost t (note_tallied t c number)
note_least t (Frame a f n) number h = tallied_least t number h
note_least t (Read a n) number h = at_most_refl t

note_most : (t : Tally) (c : Call) (number : ℕ) → AtMost t full → AtMost (note_tallied t c number) full
note_most t (Frame a f n) number h = tallied_most t number h
note_most t (Read a n) number h = h

note_after : (t : Tally) (c : Call) (number : ℕ) (ns : List ℕ) → after (note_tallied t c number) ns ≡ after t (frame_number c number ++ ns)
note_after t (Frame a f n) number ns = refl
note_after t (Read a n) number ns = refl

last_after_lem : (t : Tally) (ss : List Noted) → Chained t ss → last_tally t ss ≡ after t (frame_numbers ss)
last_after_lem t [] chain = refl
last_after_lem t (s ∷ ss) chain =
    last_after_lem s.tally ss chain.1
    ∙ ap (λ (u : Tally). after u (frame_numbers ss)) chain.0
    ∙ note_after t s.call s.number (frame_numbers ss)

all_rising : (t : Tally) (ss : List Noted) → AtMost t full → Chained t ss → Rising t ss
all_rising t [] h chain = tt
all_rising t (s ∷ ss) h chain = (
  rw chain.0 (note_least t s.call s.number h),
  all_rising s.tally ss (rw chain.0 (note_most t s.call s.number h)) chain.1,
)

-- numbers of frames that are below 15
abbrev pub Below : List ℕ → Type 0
Below [] = Unit
Below (n ∷ ns) = (n < 15) × Below ns

pub below_append : (ms ns : List ℕ) → Below ms → Below ns → Below (ms ++ ns)
below_append [] ns a b = b
below_append (m ∷ ms) ns a b = (a.0, below_append ms ns a.1 b)

none_counted : (k : ℕ) (ns : List ℕ) → 15 ≤ k → Below ns → occurrences k ns ≡ 0
none_counted k [] h below = refl
none_counted k (n ∷ ns) h below = rw (ne_eqb n k (λ e. omega (arith, below.0)), none_counted k ns h below.1)

-- the claim, of notes that are chained, and whose numbers are below 15 on I²C
pub chained_holds : (p : Profile) (t : Tally) (ss : List Noted) → AtMost t full → Chained t ss
    → (p.bus ≡ I2c → Below (frame_numbers ss)) → TallyHolds p t ss
chained_holds p t ss h chain low =
    let counts = last_after_lem t ss chain ∙ after-summed t (frame_numbers ss) h in
    record {
      counts = counts;
      rising = all_rising t ss h chain;
      only_answered = λ i2c.
          let none : (k : ℕ) → 15 ≤ k → occurrences k (frame_numbers ss) ≡ 0 = λ k few. none_counted k (frame_numbers ss) few (low i2c) in
          rw counts (
            uncounted t.short _ h.short (none 15 (omega arith)),
            uncounted t.long _ h.long (none 16 (omega arith)),
            uncounted t.sum _ h.sum (none 17 (omega arith)),
            uncounted t.foreign _ h.foreign (none 18 (omega arith)),
          );
    }
