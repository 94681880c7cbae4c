-- What `refuse` tells its caller: `Ok`, that none of the numbers 2 to 5 applies; `Err`, which of them does. Above that, what its
-- own proofs cite.
use mathlib.Core.Path.{◌≡◌, refl, sym, ap, ◌∙◌}
use mathlib.Core.Bool.{Bool, true, false, cond, not}
use Prim.Native.Nat.{ℕ, ◌+◌, ◌-◌, ◌≤◌}
use native.Mathlib.Omega.{arith}
use Rattle.std.specs.Prelude.{Ok, Err}
use lib.Dec.{eqb, ltb}
use borrow.Author.Tests.{ltb-true, ltb-false, lt-ltb, le-ltb}
use Rattle.rules.specs.declared.kinds.Outcome.{Outcome}
use Rattle.rules.specs.declared.kinds.Outcome.TheVariants.{ProfileOutOfRange, FlashTooShort, StateMalformed, BufferTooShort}
use Rattle.rules.specs.Profile.{Profile, in_range}
use Rattle.rules.specs.State.{State, well_formed}
use Rattle.rules.specs.Numbers.{number, made, flash_short, buffer_short, refusal}
use Rattle.refusal.specs.Checks.{check_of}

-- a difference is below a number exactly where what it is taken from is below the sum
pub ltb-sub : (n a b : ℕ) → a ≤ n → ltb (n - a) b ≡ ltb n (a + b)
ltb-sub n a b h = go (ltb (n - a) b) refl
  where
    go : (t : Bool) → ltb (n - a) b ≡ t → t ≡ ltb n (a + b)
    go true e = let below = ltb-true (n - a) b e in sym (lt-ltb n (a + b) (omega arith))
    go false e = let above = ltb-false (n - a) b e in sym (le-ltb n (a + b) (omega arith))

-- what is known of a refused call: its answer's number, that no byte was made, and that the number is not 0
pub record Refusal (n : ℕ) (o : Outcome) : Type 0 where
  pub numbered : number o ≡ n
  pub none_made : made o ≡ 0
  pub not_zero : eqb n 0 ≡ false

refusal_by : {o o' : Outcome} → made o ≡ 0 → eqb (number o) 0 ≡ false → o ≡ o' → Refusal (number o) o'
refusal_by {o} none not is = record { numbered = ap number (sym is); none_made = ap made (sym is) ∙ none; not_zero = not }

-- the number of the first of the four tests that applies, as `refusal` has it
abbrev first_of : Bool → Bool → Bool → Bool → ℕ
first_of outOfRange short malformed small = cond outOfRange 2 (cond short 3 (cond malformed 4 (cond small 5 0)))

module _ (p : Profile) (s : State) (flash buffer : ℕ) where
  -- the call goes on: what holds then is `refusal_unrefused` of rules
  pub check_passed : check_of (refusal p s flash buffer) ≡ Ok tt → refusal p s flash buffer ≡ 0
  unfolding refusal check_of
  check_passed = go (not (in_range p)) (flash_short p flash) (not (well_formed p s)) (buffer_short p buffer)
    where
      go : (a b c d : Bool) → check_of (first_of a b c d) ≡ Ok tt → first_of a b c d ≡ 0
      go true b c d e = cc
      go false true c d e = cc
      go false false true d e = cc
      go false false false true e = cc
      go false false false false e = refl

  -- the call is refused
  pub check_refused : (o : Outcome) → check_of (refusal p s flash buffer) ≡ Err o → Refusal (refusal p s flash buffer) o
  unfolding refusal check_of
  check_refused o = go (not (in_range p)) (flash_short p flash) (not (well_formed p s)) (buffer_short p buffer)
    where
      go : (a b c d : Bool) → check_of (first_of a b c d) ≡ Err o → Refusal (first_of a b c d) o
      go true b c d e = refusal_by {o = ProfileOutOfRange} refl refl (cc)
      go false true c d e = refusal_by {o = FlashTooShort} refl refl (cc)
      go false false true d e = refusal_by {o = StateMalformed} refl refl (cc)
      go false false false true e = refusal_by {o = BufferTooShort} refl refl (cc)
      go false false false false e = record { numbered = cc; none_made = cc; not_zero = cc }
