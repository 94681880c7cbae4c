-- The code's reset: the bytes that it made are those of the rules, and so the contract of `board::receive` says what they do.
use Rattle.std.specs.Prelude.{Result}
use mathlib.Core.Path.{◌≡◌, refl, sym, ap, subst, ◌∙◌}
use mathlib.Core.List.{List}
use Prim.Native.Nat.{ℕ, ◌<◌}
use lib.ListN.{length, take}
use Rattle.rules.specs.declared.requests.ResetError.{ResetError}
use Rattle.rules.specs.State.{fresh}
use Rattle.rules.specs.Numbers.{number}
use Rattle.rules.specs.Board.{Called, nothing, received}
use Rattle.rules.specs.Master.{reset_number, reset_length, running_reset}
use Rattle.laws.proofs.LaidLaws.{take-laid}
use Rattle.answer.specs.Answered.{CallEffect, call_effect, expected_effect}
use Rattle.encoder.specs.Calls.{Encodes}
use Rattle.roundtrip.specs.Sending.{Beside}
use Rattle.state.specs.declared.State.{State}
use Rattle.state.specs.View.{view}
use Rattle.profile.specs.declared.Profile.{Profile}
use Rattle.profile.specs.View.{profile_of}
use Rattle.refinement.specs.Happened.{CallInput, Receive, Happened, Promised, ruled_call}
use Rattle.reset_claims.specs.Running.{ResetInput, Written, reset_bytes}
use Rattle.reset_claims.specs.OfCode.{BoardFresh, CodeResets}
use Rattle.reset_claims.proofs.Resets.{unrefused, received_reset}

module _ (p : Profile) (s : State) (d : List ℕ) (h : Happened) (longest major minor a : ℕ) (answer : Result ℕ ResetError) (before after : List ℕ)
    (e : Encodes (reset_number answer) (reset_length answer) (running_reset p.bus longest major minor (length before)) before after)
    (zero : reset_number answer ≡ 0) (general : Beside p.bus a 0) (input : h.input ≡ Receive a (take (reset_length answer) after))
    (promised : Promised p s d h) (few : number h.answer.outcome < 2) where
  abbrev q : ResetInput
  q = record { bus = p.bus; longest = longest; major = major; minor = minor; room = length before }

  written : Written q
  written = sym e.number_is ∙ zero

  -- the bytes made are the rules'
  made : take (reset_length answer) after ≡ reset_bytes q
  made = rw (e.length_is, e.output_is) (take-laid (reset_bytes q) before _ refl)

  abbrev n : ℕ
  n = length h.before

  effect_is : call_effect h.answer h.flash h.after
      ≡ expected_effect (received (profile_of p) (view s) a (reset_bytes q) d n) h.before
  effect_is =
      promised.called
      ∙ ap (λ (i : CallInput). expected_effect (ruled_call p s d n i) h.before) (input ∙ ap (Receive a) made)

  number_few : (received (profile_of p) (view s) a (reset_bytes q) d n).number < 2
  number_few = subst (λ (k : ℕ). k < 2) (ap (λ (c : CallEffect). c.number) effect_is) few

  reset_is : call_effect h.answer h.flash h.after ≡ expected_effect (nothing fresh d) h.before
  reset_is =
      effect_is
      ∙ ap (λ (c : Called). expected_effect c h.before)
      (received_reset q (profile_of p) (view s) d a n written refl general
      (unrefused (profile_of p) (view s) a (reset_bytes q) d n number_few))

  board-fresh : BoardFresh d h
  board-fresh = record {
    number_is = ap (λ (c : CallEffect). c.number) reset_is;
    state_is = ap (λ (c : CallEffect). c.state) reset_is;
    flash_is = ap (λ (c : CallEffect). c.flash) reset_is;
    buffer_is = ap (λ (c : CallEffect). c.out) reset_is;
  }

pub code_resets : CodeResets
code_resets p s d h longest major minor a answer before after e zero general input promised few =
    board-fresh p s d h longest major minor a answer before after e zero general input promised few
