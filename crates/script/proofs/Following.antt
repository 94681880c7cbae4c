-- Calls of the code that follow a script up to its last bytes, and what is left at its end: by the contracts what the rules say, and by the
-- demands what the ledger says.
use mathlib.Core.Path.{◌≡◌, refl, sym, ap, ◌∙◌}
use mathlib.Core.Bool.{true, false}
use mathlib.Core.List.{List, [], ◌∷◌}
use Prim.Native.Nat.{ℕ, ◌+◌}
use lib.ListN.{length, drop}
use Rattle.rules.specs.Profile as rules
use Rattle.rules.specs.State as states
use Rattle.ledger.specs.Ledger.{Ledger, opened}
use Rattle.ledger.specs.Calls.{Reaction, calls}
use Rattle.ledger.specs.Claim.{Right, Every}
use Rattle.state.specs.declared.State.{State}
use Rattle.state.specs.View.{view, zeroed, Fresh}
use Rattle.profile.specs.declared.Profile.{Profile}
use Rattle.profile.specs.View.{profile_of}
use Rattle.answer.specs.Answered.{CallEffect}
use Rattle.refinement.specs.Happened.{Happened, Promised, Ran, call_with, call_of, calls_of, step_of, steps_from}
use Rattle.script.specs.Script.{head, frame_length, whole, input, calls_in, state_after, flash_after, Lent, buffer_after, Remains}
use Rattle.script.specs.Script.{remains, remaining, ruled_all, ledger_after, Followed, Left}
use Rattle.refinement.proofs.Observed.{ruled_call-calls}
use Rattle.refinement.proofs.Meets.{code_meets_demands}
use Rattle.script.proofs.Scripts.{calls_in_record, calls_in_end}

zeroed-fresh : Fresh zeroed
unfolding states.used
zeroed-fresh = record { viewed = refl; all = refl }

-- what calls leave is what the rules say

abbrev seen_remains : CallEffect → Remains
seen_remains x = record { state = x.state; flash = x.flash; out = x.out }

call-remains : (p : Profile) (s : State) (d : List ℕ) (h : Happened) → Promised p s d h
    → remains h.answer.state h.flash h.after ≡ remaining (calls (profile_of p) (view s) d (call_of h)) h.before
call-remains p s d h done =
    ap seen_remains done.called
    ∙ ap (λ (r : Reaction states.State). remaining r h.before) (ruled_call-calls p s d (length h.before) h.input)

ran_remains : (p : Profile) (s : State) (d b : List ℕ) (hs : List Happened) → Ran p s d hs → Lent b hs
    → remains (state_after s hs) (flash_after d hs) (buffer_after b hs) ≡ ruled_all p (remains s d b) (calls_of hs)
unfolding ruled_all
ran_remains p s d b [] ran lent = refl
ran_remains p s d b (h ∷ hs) ran lent =
    let first = call-remains p s d h ran.0 ∙ ap (remaining (calls (profile_of p) (view s) d (call_of h))) lent.0 in
    ran_remains p h.answer.state h.flash h.after hs ran.1 lent.1 ∙ ap (λ (x : Remains). ruled_all p x (calls_of hs)) first

-- what the last call left is the last ledger's

after_flash : (p : rules.Profile) (d : List ℕ) (k : Ledger) (hs : List Happened) → d ≡ k.copy → Every (Right p) (steps_from p k hs)
    → flash_after d hs ≡ (ledger_after k (steps_from p k hs)).copy
after_flash p d k [] same right = same
after_flash p d k (h ∷ hs) same right = after_flash p h.flash (step_of p k h).ledger hs right.0.flash_is right.1

after_count : (p : rules.Profile) (s : State) (k : Ledger) (hs : List Happened) → s.upload.count ≡ k.count
    → Every (Right p) (steps_from p k hs)
    → (state_after s hs).upload.count ≡ (ledger_after k (steps_from p k hs)).count
after_count p s k [] same right = same
after_count p s k (h ∷ hs) same right = after_count p h.answer.state (step_of p k h).ledger hs right.0.count_is right.1

followed_left : {p : Profile} {script d b : List ℕ} {s : State} {e o : List ℕ} → Followed p script d b s e o → Left p script d b s e o
followed_left {p} {script} {d} {b} f =
    let met = code_meets_demands p zeroed d f.happened zeroed-fresh f.ran in
    let right = met.demand3.each in
    let left = ran_remains p zeroed d b f.happened f.ran f.lent in
    let begin =
    ap (λ (x : states.State). ruled_all p (record { state = x; flash = d; out = b }) (calls_of f.happened)) zeroed-fresh.viewed in
    let order = ap (ruled_all p (record { state = states.fresh; flash = d; out = b })) f.in_order in
    record {
      as_ruled = rw (f.state_left_holds, f.flash_left, f.buffer_left) at left ∙ begin ∙ order;
      followed = f;
      met = met;
      flash_is = sym f.flash_left ∙ after_flash (profile_of p) d (opened d) f.happened refl right;
      count_is =
          ap (λ (x : State). x.upload.count) (sym f.state_left_holds) ∙ after_count (profile_of p) zeroed (opened d) f.happened refl right;
    }

-- calls followed a script up to its last bytes: whatever calls then follow these, the whole is followed
pub record Reached (p : Profile) (script d b bytes : List ℕ) (s : State) (e o : List ℕ) : Type 0 where
  pub flash_length : length e ≡ length d
  pub buffer_length : length o ≡ length b
  pub leads : (rest : List Happened) → calls_of rest ≡ calls_in (length b) bytes → Ran p s e rest → Lent o rest
      → Followed p script d b (state_after s rest) (flash_after e rest) (buffer_after o rest)

module _ (p : Profile) (script d b : List ℕ) where
  pub reached_none : (s : State) → s ≡ zeroed → Reached p script d b script s d b
  reached_none s all = record {
    flash_length = refl;
    buffer_length = refl;
    leads = λ rest order ran lent.
        record {
          happened = rest;
          in_order = order;
          ran = rw all at ran;
          lent = lent;
          state_left_holds = rw all;
          flash_left = refl;
          buffer_left = refl;
        };
  }

  module _ {bytes : List ℕ} {s : State} {e o : List ℕ} (before : Reached p script d b bytes s e o) where
    pub reached_record : (h : Happened) (next : List ℕ) → whole bytes ≡ true → next ≡ drop (head + frame_length bytes) bytes
        → h.before ≡ o → length h.after ≡ length o → length h.flash ≡ length e → h.input ≡ input bytes → Promised p s e h
        → Reached p script d b next h.answer.state h.flash h.after
    reached_record h next is place lent same same-flash for done =
        record {
          flash_length = same-flash ∙ before.flash_length;
          buffer_length = same ∙ before.buffer_length;
          leads = λ rest order ran more.
              let first : call_of h ≡ call_with (input bytes) (length b) = rw (for, lent, before.buffer_length) in
              before.leads (h ∷ rest) (cc (calls_in_record (length b) bytes is))
              (done, ran) (lent, more);
        }

    pub reached_end : whole bytes ≡ false → Left p script d b s e o
    reached_end is = followed_left (before.leads [] (sym (calls_in_end (length b) bytes is)) tt tt)
