-- The board of the rules with its tally: each call is chained, and on I²C no frame gets 15 or more (`Dropped`).
use mathlib.Core.Path.{◌≡◌, refl}
use mathlib.Core.Bool.{Bool, true, false, cond, not}
use mathlib.Core.List.{List, [], ◌∷◌}
use Prim.Native.Nat.{ℕ, ◌≤◌, ◌<◌}
use native.Mathlib.Omega.{arith}
use lib.Dec.{eqb}
use lib.ListN.{length}
use borrow.Author.Tests.{eqb-true, eqb-false}
use Rattle.rules.specs.declared.kinds.Bus.{Bus}
use Rattle.rules.specs.declared.kinds.Bus.TheVariants.{I2c, Rs485}
use Rattle.rules.specs.Profile.{Profile, in_range}
use Rattle.rules.specs.State.{State, well_formed}
use Rattle.rules.specs.Numbers.{refusal, flash_short, buffer_short}
use Rattle.rules.specs.Board.{received}
use Rattle.laws.proofs.StateLaws.{in_range_facts, refusal_unrefused}
use Rattle.laws.proofs.TestLaws.{by_test}
use Rattle.laws.proofs.BoardLaws.{received-handled, received-refused}
use Rattle.ledger.specs.Calls.{Call, Frame, Read, calls}
use Rattle.demands.specs.Past.{Past, past_of}
use Rattle.demands.specs.Acceptance.{dropped}
use Rattle.demands.proofs.Dropped.{handled_drops}
use Rattle.tally.specs.declared.Tally.{Tally}
use Rattle.tally_claims.specs.Counting.{frame_number, frame_numbers, noted, TallyRight, call_tallied, ruled_tally}
use Rattle.tally_claims.proofs.Chains.{note_tallied, Chained, Below, below_append, chained_holds}

refusal_most : (p : Profile) (s : State) (n m : ℕ) → refusal p s n m ≤ 5
unfolding refusal
refusal_most p s n m = go (not (in_range p)) (flash_short p n) (not (well_formed p s)) (buffer_short p m)
  where
    go : (range flash state buffer : Bool) → cond range 2 (cond flash 3 (cond state 4 (cond buffer 5 0))) ≤ 5
    go true flash state buffer = omega arith
    go false true state buffer = omega arith
    go false false true buffer = omega arith
    go false false false true = omega arith
    go false false false false = omega arith

none_dropped : (bus : Bus) (M : ℕ) (past : Past) (f : List ℕ) → bus ≡ I2c → dropped bus M past f ≡ 0
none_dropped I2c M past f e = refl
none_dropped Rs485 M past f e = cc

-- on I²C a received frame gets a number of at most 5
pub received_below : (p : Profile) (s : State) (a : ℕ) (f d : List ℕ) (n : ℕ) → p.bus ≡ I2c → (received p s a f d n).number < 15
received_below p s a f d n i2c =
    by_test (eqb (refusal p s (length d) n) 0)
    (λ e.
    let none = eqb-true _ _ e in
    let least = (in_range_facts p (refusal_unrefused p s (length d) n none).in_range_holds).longest_least in
    let few = (handled_drops p s a f d least).takes (none_dropped p.bus p.longest (past_of s) f i2c) in
    rw (received-handled p s d a f n none) (omega (arith, few)))
    (λ e. rw (received-refused p s d a f n (eqb-false _ _ e)) (omega (arith, refusal_most p s (length d) n)))

module _ (p : Profile) where
  call_chained : (s : State) (d : List ℕ) (t : Tally) (c : Call) → call_tallied p s d t c ≡ note_tallied t c (calls p s d c).number
  call_chained s d t (Frame a f n) = refl
  call_chained s d t (Read a n) = refl

  call_below : (s : State) (d : List ℕ) (c : Call) → p.bus ≡ I2c → Below (frame_number c (calls p s d c).number)
  call_below s d (Frame a f n) i2c = (received_below p s a f d n i2c, tt)
  call_below s d (Read a n) i2c = tt

  all_chained : (s : State) (d : List ℕ) (t : Tally) (cs : List Call) → Chained t (noted ruled_tally p s d t cs)
  unfolding noted
  all_chained s d t [] = tt
  all_chained s d t (c ∷ cs) = (call_chained s d t c, all_chained (calls p s d c).state (calls p s d c).flash (call_tallied p s d t c) cs)

  all_below : (s : State) (d : List ℕ) (t : Tally) (cs : List Call) → p.bus ≡ I2c → Below (frame_numbers (noted ruled_tally p s d t cs))
  unfolding noted
  all_below s d t [] i2c = tt
  all_below s d t (c ∷ cs) i2c =
      below_append (frame_number c (calls p s d c).number) _ (call_below s d c i2c)
      (all_below (calls p s d c).state (calls p s d c).flash (call_tallied p s d t c) cs i2c)

pub tally_right : TallyRight ruled_tally
tally_right p s d t cs h = chained_holds p t (noted ruled_tally p s d t cs) h (all_chained p s d t cs) (all_below p s d t cs)
