-- What is written down of the C calls is what the board of the rules does: the state bytes say the rules' state before each call, so they
-- say it after (`kept_says`, `refused_says`).
use mathlib.Core.Path.{◌≡◌, refl, sym, ap, ◌∙◌}
use mathlib.Core.List.{List, [], ◌∷◌}
use Prim.Native.Nat.{ℕ, ◌≤◌}
use lib.Dec.{ltb}
use lib.ListN.{length, take}
use borrow.Author.Tests.{ltb-true, ltb-false}
use Rattle.rules.specs.State as states
use Rattle.rules.specs.Board.{Called, received, read_out}
use Rattle.laws.proofs.TestLaws.{by_test}
use Rattle.laws.proofs.LaidLaws.{take-laid}
use Rattle.laws.proofs.BoardLaws.{read_out_state, read_out_flash}
use Rattle.ledger.specs.Ledger.{Ledger}
use Rattle.ledger.specs.Calls.{Reaction, Step, calls, ruled, stepped, trace}
use Rattle.demands.proofs.Refused.{refused_untouched}
use Rattle.state.specs.View.{view}
use Rattle.profile.specs.View.{profile_of}
use Rattle.profile_bytes.specs.ProfileBytes.{profile_at}
use Rattle.state_bytes.specs.StateBytes.{state_at}
use Rattle.childbus_board.specs.BoardBytes.{received_left, read_left}
use Rattle.childbus_board.proofs.KeptLaws.{kept_says, refused_says}
use Rattle.boundary_claims.specs.Calls.{Call, Receive, Read, left, call_of, calls_of, step_of, steps_from}

module _ (profile state flash : List ℕ) where
  -- what the rules' board does on what the bytes say
  abbrev reacts : Call → Reaction states.State
  reacts c = calls (profile_of (profile_at profile)) (view (state_at state)) flash (call_of c)

  -- the state bytes after childbus_receive, refused or not
  received_kept : (a : ℕ) (f out : List ℕ) → 2 ≤ (received_left profile state a f flash out).number
      → view (state_at (received_left profile state a f flash out).state)
      ≡ (received (profile_of (profile_at profile)) (view (state_at state)) a f flash (length out)).state
  unfolding received_left
  received_kept a f out two =
      let all = (refused_untouched (profile_of (profile_at profile)) (view (state_at state)) a f flash (length out)).0 two in
      ap (λ (b : List ℕ). view (state_at b)) (refused_says profile state a f flash out two) ∙ sym (ap (λ (c : Called). c.state) all)

  received_says : (a : ℕ) (f out : List ℕ) → view (state_at (received_left profile state a f flash out).state)
      ≡ (received (profile_of (profile_at profile)) (view (state_at state)) a f flash (length out)).state
  received_says a f out =
      by_test (ltb (received_left profile state a f flash out).number 2) (λ e. kept_says profile state a f flash out (ltb-true _ _ e))
      (λ e. received_kept a f out (ltb-false _ _ e))

  pub state_ruled : (c : Call) → view (state_at (left profile state flash c).state) ≡ (reacts c).state
  unfolding left
  state_ruled (Receive a f out) = received_says a f out
  state_ruled (Read a out) = sym (read_out_state (profile_of (profile_at profile)) (view (state_at state)) a flash (length out))

  flash_ruled : (c : Call) → (left profile state flash c).flash ≡ (reacts c).flash
  unfolding left received_left
  flash_ruled (Receive a f out) = refl
  flash_ruled (Read a out) = sym (read_out_flash (profile_of (profile_at profile)) (view (state_at state)) a flash (length out))

  number-ruled : (c : Call) → (left profile state flash c).number ≡ (reacts c).number
  unfolding left received_left read_left
  number-ruled (Receive a f out) = refl
  number-ruled (Read a out) = refl

  reply-ruled : (c : Call) → take (left profile state flash c).made (left profile state flash c).out ≡ (reacts c).reply
  unfolding left received_left read_left
  reply-ruled (Receive a f out) =
      let c : Called = received (profile_of (profile_at profile)) (view (state_at state)) a f flash (length out) in
      take-laid c.reply out (length c.reply) refl
  reply-ruled (Read a out) =
      let c : Called = read_out (profile_of (profile_at profile)) (view (state_at state)) a flash (length out) in
      take-laid c.reply out (length c.reply) refl

  step_ruled : (k : Ledger) (c : Call) → step_of (profile_of (profile_at profile)) k c (left profile state flash c)
      ≡ stepped ruled (profile_of (profile_at profile)) k (call_of c) (reacts c)
  step_ruled k c =
      let count : (view (state_at (left profile state flash c).state)).upload.count ≡ (reacts c).state.upload.count =
      ap (λ (x : states.State). x.upload.count) (state_ruled c) in
      rw (number-ruled c, reply-ruled c, count, flash_ruled c)

pub steps-ruled : (profile state flash : List ℕ) (k : Ledger) (cs : List Call)
    → steps_from profile state flash k cs ≡ trace ruled (profile_of (profile_at profile)) (view (state_at state)) flash k (calls_of cs)
unfolding steps_from trace
steps-ruled profile state flash k [] = refl
steps-ruled profile state flash k (c ∷ cs) =
    let step = step_ruled profile state flash k c in
    let said = state_ruled profile state flash c in
    let kept = flash_ruled profile state flash c in
    let entered = ap (λ (t : Step). t.ledger) step in
    let rest =
    steps-ruled profile (left profile state flash c).state (left profile state flash c).flash
    (step_of (profile_of (profile_at profile)) k c (left profile state flash c)).ledger cs in
    cc
