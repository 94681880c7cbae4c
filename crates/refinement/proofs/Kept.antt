-- Demand 1 of the code: what the rules hand back untouched (`refused_untouched`, `ignored_frames`) is, by the contract's equation, what the
-- code left; of the very state, bytes that mean nothing too, by the contract's own word.
use mathlib.Core.Path.{◌≡◌, ap, ◌∙◌}
use mathlib.Core.List.{List, [], ◌∷◌}
use Prim.Native.Nat.{ℕ, ◌≤◌}
use lib.ListN.{length}
use Rattle.rules.specs.Board.{Called, refused}
use Rattle.demands.proofs.Refused.{refused_untouched}
use Rattle.demands.proofs.Ignored.{ignored_frames}
use Rattle.state.specs.declared.State.{State}
use Rattle.state.specs.View.{view}
use Rattle.profile.specs.declared.Profile.{Profile}
use Rattle.profile.specs.View.{profile_of}
use Rattle.answer.specs.Answered.{CallEffect, call_effect, expected_effect}
use Rattle.refinement.specs.Happened.{CallInput, Receive, Read, Happened, ruled_call, Promised, Ran}
use Rattle.refinement.specs.Met.{Refused, Ignored, AllKept}

ruled_call_untouched : (p : Profile) (s : State) (d : List ℕ) (n : ℕ) (input : CallInput) → 2 ≤ (ruled_call p s d n input).number
    → ruled_call p s d n input ≡ refused (ruled_call p s d n input).number (view s) d
ruled_call_untouched p s d n (Receive a f) = (refused_untouched (profile_of p) (view s) a f d n).0
ruled_call_untouched p s d n (Read a) = (refused_untouched (profile_of p) (view s) a [] d n).1

call-refused : (p : Profile) (s : State) (d : List ℕ) (h : Happened) → Promised p s d h → Refused s d h
call-refused p s d h done = λ two.
    let number = ap (λ (x : CallEffect). x.number) done.called in
    let all = ruled_call_untouched p s d (length h.before) h.input (rw number at two) in
    let left = done.called ∙ ap (λ (c : Called). expected_effect c h.before) all in (
      done.untouched two,
      ap (λ (x : CallEffect). x.flash) left,
      ap (λ (x : CallEffect). x.out) left,
    )

call-ignored : (p : Profile) (s : State) (d : List ℕ) (h : Happened) (input : CallInput)
    → call_effect h.answer h.flash h.after ≡ expected_effect (ruled_call p s d (length h.before) input) h.before
    → Ignored p s d h input
call-ignored p s d h (Receive a f) called = λ stray.
    let kept = ignored_frames (profile_of p) (view s) a f d (length h.before) stray in (
      ap (λ (x : CallEffect). x.flash) called ∙ kept.0,
      ap (λ (x : CallEffect). x.state.upload) called ∙ kept.1,
    )
call-ignored p s d h (Read a) called = tt

pub all_kept : (p : Profile) (s : State) (d : List ℕ) (hs : List Happened) → Ran p s d hs → AllKept p s d hs
all_kept p s d [] ran = tt
all_kept p s d (h ∷ hs) ran =
    (call-refused p s d h ran.0, call-ignored p s d h h.input ran.0.called, all_kept p h.answer.state h.flash hs ran.1)
