-- What is written down of the code is what the board of the rules does: the contract equates all that is seen of a call with what the rules
-- say, and a reply laid over the lent buffer is its first bytes (`take-laid`); so by induction over the list.
use mathlib.Core.Path.{◌≡◌, refl, ap, ◌∙◌}
use mathlib.Core.List.{List, [], ◌∷◌}
use Prim.Native.Nat.{ℕ}
use lib.ListN.{length, take}
use Rattle.rules.specs.Profile as rules
use Rattle.rules.specs.State as states
use Rattle.rules.specs.Board.{Called}
use Rattle.laws.proofs.LaidLaws.{take-laid}
use Rattle.ledger.specs.Ledger.{Ledger}
use Rattle.ledger.specs.Calls.{Call, Step, Reaction, reaction, calls, ruled, fed, stepped, trace}
use Rattle.state.specs.declared.State.{State}
use Rattle.state.specs.View.{view}
use Rattle.profile.specs.declared.Profile.{Profile}
use Rattle.profile.specs.View.{profile_of}
use Rattle.answer.specs.Answered.{CallEffect, expected_effect}
use Rattle.refinement.specs.Happened.{CallInput, Receive, Read, Happened, ruled_call, Promised, Ran, call_with, call_of, calls_of, step_of}
use Rattle.refinement.specs.Happened.{steps_from}

-- what is written down of what is seen of a call
abbrev written : rules.Profile → Ledger → Call → CallEffect → Step
written p k c x = record {
  call = c;
  number = x.number;
  reply = take x.made x.out;
  count = x.state.upload.count;
  flash = x.flash;
  ledger = fed p k c x.number (take x.made x.out);
}

written_expected : (p : rules.Profile) (k : Ledger) (c : Call) (x : Called) (before : List ℕ)
    → written p k c (expected_effect x before) ≡ stepped ruled p k c (reaction x)
written_expected p k c x before = rw (take-laid x.reply before (length x.reply) refl)

-- what the rules say is what their board does
pub ruled_call-calls : (p : Profile) (s : State) (d : List ℕ) (n : ℕ) (input : CallInput)
    → reaction (ruled_call p s d n input) ≡ calls (profile_of p) (view s) d (call_with input n)
ruled_call-calls p s d n (Receive a f) = refl
ruled_call-calls p s d n (Read a) = refl

module _ (p : Profile) (s : State) (d : List ℕ) (k : Ledger) (h : Happened) (done : Promised p s d h) where
  abbrev reacts : Reaction states.State
  reacts = calls (profile_of p) (view s) d (call_of h)

  step_ruled : step_of (profile_of p) k h ≡ stepped ruled (profile_of p) k (call_of h) reacts
  step_ruled =
      ap (written (profile_of p) k (call_of h)) done.called
      ∙ written_expected (profile_of p) k (call_of h) (ruled_call p s d (length h.before) h.input) h.before
      ∙ ap (stepped ruled (profile_of p) k (call_of h)) (ruled_call-calls p s d (length h.before) h.input)

  pub state_ruled : view h.answer.state ≡ reacts.state
  state_ruled =
      ap (λ (x : CallEffect). x.state) done.called
      ∙ ap (λ (r : Reaction states.State). r.state) (ruled_call-calls p s d (length h.before) h.input)

-- all calls
pub steps-ruled : (p : Profile) (s : State) (d : List ℕ) (k : Ledger) (hs : List Happened) → Ran p s d hs
    → steps_from (profile_of p) k hs ≡ trace ruled (profile_of p) (view s) d k (calls_of hs)
unfolding trace
steps-ruled p s d k [] ran = refl
steps-ruled p s d k (h ∷ hs) ran =
    let step = step_ruled p s d k h ran.0 in
    let state = state_ruled p s d k h ran.0 in
    let flash = ap (λ (t : Step). t.flash) step in
    let ledger = ap (λ (t : Step). t.ledger) step in
    let rest = steps-ruled p h.answer.state h.flash (step_of (profile_of p) k h).ledger hs ran.1 in
    cc
