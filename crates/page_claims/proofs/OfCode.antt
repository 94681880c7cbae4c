-- The code does what the rules say of its states' views, and gives back the very state where it refuses.
use mathlib.Core.Path.{◌≡◌, sym, ap, subst, ◌∙◌}
use mathlib.Core.Bool.{true, false}
use mathlib.Core.List.{List, []}
use Prim.Native.Nat.{ℕ, ◌+◌, ◌≤◌}
use native.Mathlib.Omega.{arith}
use lib.ListN.{length}
use Rattle.rules.specs.Profile.{in_range}
use Rattle.rules.specs.State.{well_formed}
use Rattle.rules.specs.Numbers.{number, refusal}
use Rattle.rules.specs.Frames.{command_of, arguments_of}
use Rattle.rules.specs.Board.{Called, refused, received}
use Rattle.ledger.specs.Calls.{Read}
use Rattle.demands.specs.Past.{past_of, well_framed}
use Rattle.answer.specs.Answered.{CallEffect, call_effect, expected_effect}
use Rattle.state.specs.declared.State.{State}
use Rattle.state.specs.View.{upload_of, view}
use Rattle.profile.specs.declared.Profile.{Profile}
use Rattle.profile.specs.View.{profile_of}
use Rattle.refinement.specs.Happened.{CallInput, Receive, Read, Happened, Promised, ruled_call}
use Rattle.page_claims.specs.Pages.{Laid}
use Rattle.page_claims.specs.OfCode.{Malformed, CodeHandedIn}
use Rattle.page_claims.proofs.HandedIn.{refused_malformed, laid}

malformed : (p : Profile) (s : State) (d : List ℕ) (h : Happened) → Promised p s d h → in_range (profile_of p) ≡ true
    → p.offset + p.size ≤ length d → well_formed (profile_of p) (view s) ≡ false → Malformed s d h
malformed p s d h promised range room bad =
    let effect : call_effect h.answer h.flash h.after ≡ expected_effect (refused 4 (view s) d) h.before =
    promised.called ∙ ap (λ (c : Called). expected_effect c h.before) (ruled-refused h.input) in
    let four : number h.answer.outcome ≡ 4 = ap (λ (c : CallEffect). c.number) effect in
    record {
      number_is = four;
      state_is = promised.untouched (rw four (omega arith));
      flash_is = ap (λ (c : CallEffect). c.flash) effect;
      buffer_is = ap (λ (c : CallEffect). c.out) effect;
    }
  where
    ruled-refused : (i : CallInput) → ruled_call p s d (length h.before) i ≡ refused 4 (view s) d
    ruled-refused (Receive a f) = (refused_malformed (profile_of p) (view s) d range room bad).0 a f (length h.before)
    ruled-refused (Read a) = (refused_malformed (profile_of p) (view s) d range room bad).1 a (length h.before)

finalized : (p : Profile) (s : State) (d : List ℕ) (h : Happened) (a : ℕ) (f : List ℕ) → Promised p s d h → h.input ≡ Receive a f
    → refusal (profile_of p) (view s) (length d) (length h.before) ≡ 0 → well_framed (profile_of p) (past_of (view s)) a f ≡ true
    → command_of p.bus f ≡ 0x07 → arguments_of p.bus f ≡ []
    → (number h.answer.outcome ≡ 0) × Laid (profile_of p) (upload_of s.upload) d (upload_of h.answer.state.upload) h.flash
finalized p s d h a f promised input e heard is none =
    let c : Called = received (profile_of p) (view s) a f d (length h.before) in
    let effect : call_effect h.answer h.flash h.after ≡ expected_effect c h.before =
    promised.called ∙ ap (λ (i : CallInput). expected_effect (ruled_call p s d (length h.before) i) h.before) input in
    subst (λ (x : CallEffect). (x.number ≡ 0) × Laid (profile_of p) (upload_of s.upload) d x.state.upload x.flash)
    (sym effect) (laid (profile_of p) (view s) d a f (length h.before) e heard is none)

pub code_handed_in : CodeHandedIn
code_handed_in = record { malformed = malformed; finalized = finalized }
