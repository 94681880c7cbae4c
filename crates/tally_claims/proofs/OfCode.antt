-- The code's calls: by the contract each tally is the one before, counted by the number that the rules give, which is the answer's.
use mathlib.Core.Path.{◌≡◌, refl, sym, ap, ◌∙◌}
use mathlib.Core.List.{List, [], ◌∷◌}
use Prim.Native.Nat.{ℕ}
use lib.ListN.{length}
use Rattle.rules.specs.declared.kinds.Bus.TheVariants.{I2c}
use Rattle.rules.specs.Numbers.{number}
use Rattle.state.specs.declared.State.{State}
use Rattle.state.specs.View.{view}
use Rattle.profile.specs.declared.Profile.{Profile}
use Rattle.profile.specs.View.{profile_of}
use Rattle.answer.specs.Answered.{CallEffect}
use Rattle.refinement.specs.Happened.{CallInput, Receive, Read, Happened, Promised, Ran, call_with, call_of}
use Rattle.refinement.proofs.Meets.{code_meets_demands}
use Rattle.tally.specs.declared.Tally.{Tally}
use Rattle.tally.specs.Tally.{tallied}
use Rattle.tally_claims.specs.Counting.{frame_number, frame_numbers}
use Rattle.tally_claims.specs.OfCode.{Counted, TallyPromised, RanTallied, happened_of, notes_of, CodeCounts}
use Rattle.tally_claims.proofs.Chains.{note_tallied, Chained, Below, below_append, chained_holds}
use Rattle.tally_claims.proofs.Ruled.{received_below}

module _ (p : Profile) (s : State) (d : List ℕ) (t u : Tally) (h : Happened) where
  promised : (input : CallInput) → h.input ≡ input → TallyPromised p s d t u h input → Promised p s d h
  promised (Receive a f) e done = rw e done.answered.answered
  promised (Read a) e done = done.0

  call_chained : (input : CallInput) → TallyPromised p s d t u h input
      → u ≡ note_tallied t (call_with input (length h.before)) (number h.answer.outcome)
  call_chained (Receive a f) done =
      done.counted ∙ ap (λ (n : ℕ). tallied t n) (sym (ap (λ (x : CallEffect). x.number) done.answered.answered.called))
  call_chained (Read a) done = done.1

  call_below : (input : CallInput) → TallyPromised p s d t u h input → p.bus ≡ I2c
      → Below (frame_number (call_with input (length h.before)) (number h.answer.outcome))
  call_below (Receive a f) done i2c =
      let same = ap (λ (x : CallEffect). x.number) done.answered.answered.called in
      (rw same (received_below (profile_of p) (view s) a f d (length h.before) i2c), tt)
  call_below (Read a) done i2c = tt

module _ (p : Profile) where
  all_ran : (s : State) (d : List ℕ) (t : Tally) (cs : List Counted) → RanTallied p s d t cs → Ran p s d (happened_of cs)
  all_ran s d t [] ran = tt
  all_ran s d t (c ∷ cs) ran = (
    promised p s d t c.tally c.happened c.happened.input refl ran.0,
    all_ran c.happened.answer.state c.happened.flash c.tally cs ran.1,
  )

  all_chained : (s : State) (d : List ℕ) (t : Tally) (cs : List Counted) → RanTallied p s d t cs → Chained t (notes_of cs)
  all_chained s d t [] ran = tt
  all_chained s d t (c ∷ cs) ran = (
    call_chained p s d t c.tally c.happened c.happened.input ran.0,
    all_chained c.happened.answer.state c.happened.flash c.tally cs ran.1,
  )

  all_below : (s : State) (d : List ℕ) (t : Tally) (cs : List Counted) → RanTallied p s d t cs → p.bus ≡ I2c
      → Below (frame_numbers (notes_of cs))
  all_below s d t [] ran i2c = tt
  all_below s d t (c ∷ cs) ran i2c =
      below_append (frame_number (call_of c.happened) (number c.happened.answer.outcome)) (frame_numbers (notes_of cs))
      (call_below p s d t c.tally c.happened c.happened.input ran.0 i2c)
      (all_below c.happened.answer.state c.happened.flash c.tally cs ran.1 i2c)

pub code_counts : CodeCounts
code_counts p s d t cs h ran = record {
  holds = chained_holds (profile_of p) t (notes_of cs) h (all_chained p s d t cs ran) (all_below p s d t cs ran);
  demands = λ fresh. code_meets_demands p s d (happened_of cs) fresh (all_ran p s d t cs ran);
}
