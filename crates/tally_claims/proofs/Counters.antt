-- A counter after a list of numbers is the smaller of 65,535 and its start plus how often its number stands there: by induction, once for
-- all five.
use mathlib.Core.Path.{◌≡◌, refl, ◌∙◌}
use mathlib.Core.Bool.{Bool, true, false, cond}
use mathlib.Core.List.{List, [], ◌∷◌}
use Prim.Native.Nat.{ℕ, ◌+◌, ◌≤◌, min}
use native.Mathlib.Omega.{arith}
use lib.Dec.{eqb}
use Rattle.tally.specs.declared.Tally.{Tally}
use Rattle.tally.specs.Tally.{largest_count, more, tallied}
use Rattle.tally_claims.specs.Counting.{AtMost, full, occurrences, summed}

-- a counter of the number k, after a list of numbers
abbrev counter : ℕ → ℕ → List ℕ → ℕ
counter k x [] = x
counter k x (n ∷ ns) = counter k (more (eqb n k) x) ns

more_least : (counts : Bool) (x : ℕ) → x ≤ largest_count → x ≤ more counts x
more_least true x h = omega arith
more_least false x h = omega arith

more_most : (counts : Bool) (x : ℕ) → x ≤ largest_count → more counts x ≤ largest_count
more_most true x h = omega arith
more_most false x h = h

more_min : (counts : Bool) (x o : ℕ) → x ≤ largest_count
    → min (more counts x + o) largest_count ≡ min (x + (cond counts 1 0 + o)) largest_count
more_min true x o h = omega arith
more_min false x o h = omega arith

counter_min : (k x : ℕ) (ns : List ℕ) → x ≤ largest_count → counter k x ns ≡ min (x + occurrences k ns) largest_count
counter_min k x [] h = omega arith
counter_min k x (n ∷ ns) h =
    counter_min k (more (eqb n k) x) ns (more_most (eqb n k) x h) ∙ more_min (eqb n k) x (occurrences k ns) h

-- a tally after a list of numbers
abbrev pub after : Tally → List ℕ → Tally
after t [] = t
after t (n ∷ ns) = after (tallied t n) ns

after-counter : (get : Tally → ℕ) (k : ℕ) → ((t : Tally) (n : ℕ) → get (tallied t n) ≡ more (eqb n k) (get t)) → (t : Tally) (ns : List ℕ)
    → get (after t ns) ≡ counter k (get t) ns
after-counter get k step t [] = refl
after-counter get k step t (n ∷ ns) = after-counter get k step (tallied t n) ns ∙ rw (step t n)

pub after-summed : (t : Tally) (ns : List ℕ) → AtMost t full → after t ns ≡ summed t ns
after-summed t ns h =
    let short = after-counter (λ (u : Tally). u.short) 15 (λ u n. refl) t ns ∙ counter_min 15 t.short ns h.short in
    let long = after-counter (λ (u : Tally). u.long) 16 (λ u n. refl) t ns ∙ counter_min 16 t.long ns h.long in
    let sum = after-counter (λ (u : Tally). u.sum) 17 (λ u n. refl) t ns ∙ counter_min 17 t.sum ns h.sum in
    let foreign = after-counter (λ (u : Tally). u.foreign) 18 (λ u n. refl) t ns ∙ counter_min 18 t.foreign ns h.foreign in
    let answered = after-counter (λ (u : Tally). u.answered) 0 (λ u n. refl) t ns ∙ counter_min 0 t.answered ns h.answered in
    joined short long sum foreign answered
  where
    joined : {a a' b b' c c' d d' e e' : ℕ} → a ≡ a' → b ≡ b' → c ≡ c' → d ≡ d' → e ≡ e'
        → ◌≡◌ {A = Tally} (record { short = a; long = b; sum = c; foreign = d; answered = e })
        (record { short = a'; long = b'; sum = c'; foreign = d'; answered = e' })
    joined p q r s t = cc

-- a counted frame: no counter falls, none passes its limit
pub tallied_least : (t : Tally) (n : ℕ) → AtMost t full → AtMost t (tallied t n)
tallied_least t n h = record {
  short = more_least (eqb n 15) t.short h.short;
  long = more_least (eqb n 16) t.long h.long;
  sum = more_least (eqb n 17) t.sum h.sum;
  foreign = more_least (eqb n 18) t.foreign h.foreign;
  answered = more_least (eqb n 0) t.answered h.answered;
}

pub tallied_most : (t : Tally) (n : ℕ) → AtMost t full → AtMost (tallied t n) full
tallied_most t n h = record {
  short = more_most (eqb n 15) t.short h.short;
  long = more_most (eqb n 16) t.long h.long;
  sum = more_most (eqb n 17) t.sum h.sum;
  foreign = more_most (eqb n 18) t.foreign h.foreign;
  answered = more_most (eqb n 0) t.answered h.answered;
}

pub at_most_refl : (t : Tally) → AtMost t t
at_most_refl t = record { short = omega arith; long = omega arith; sum = omega arith; foreign = omega arith; answered = omega arith }

-- a counter whose number doesn't stand in the list is as it was
pub uncounted : (x o : ℕ) → x ≤ largest_count → o ≡ 0 → min (x + o) largest_count ≡ x
uncounted x o h e = omega arith
