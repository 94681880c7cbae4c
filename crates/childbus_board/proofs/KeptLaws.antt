-- What the state buffer says after a call. Why: a call that is not refused leaves a well-formed state, whose numbers fit their bytes.
use mathlib.Core.Path.{◌≡◌, refl, sym, ap, ◌∙◌}
use mathlib.Core.Bool.{true, false, false≢true}
use mathlib.Core.List.{List}
use Prim.Native.Nat.{ℕ, ◌≤◌, ◌<◌}
use native.Mathlib.Omega.{arith}
use lib.Dec.{eqb}
use lib.ListN.{length, drop, replicate, length-append, length-replicate}
use borrow.Author.Tests.{eqb-true, le-leb, lt-ltb, le-ltb}
use Rattle.rules.specs.Profile as paper
use Rattle.rules.specs.State as rules
use Rattle.rules.specs.State.{used, well_formed}
use Rattle.rules.specs.Numbers.{laid, refusal, Unrefused}
use Rattle.rules.specs.Board.{Called, received}
use Rattle.laws.proofs.StateLaws.{refusal_unrefused}
use Rattle.laws.proofs.TestLaws.{by_test}
use Rattle.laws.proofs.BoardLaws.{received_formed_call, received-refused, refusal_least}
use Rattle.state.specs.View.{view}
use Rattle.profile.specs.View.{profile_of}
use Rattle.profile_bytes.specs.ProfileBytes.{profile_at}
use Rattle.state_bytes.specs.StateBytes.{state_size, state_held, state_at, head_written, state_written}
use Rattle.state_bytes.specs.BothWays.{StateFits, RestKept}
use Rattle.state_bytes.proofs.Laws.{said_at, held_long, state_fits, state_read, rest_kept, state_malformed}
use Rattle.childbus_board.specs.BoardBytes.{fresh_left, call_of, received_left}

-- childbus_fresh

zeros_held : (state : List ℕ) → state_size ≤ length state → state_held (laid (replicate state_size 0) state) ≡ true
zeros_held state long =
    let zeros : List ℕ = replicate state_size 0 in
    let room : state_size ≤ length (laid zeros state) =
    omega (arith, length-append zeros (drop (length zeros) state), length-replicate {A = ℕ} state_size 0) in
    rw (le-leb _ _ room)

-- the fresh head written over zeros
pub fresh-written : (state : List ℕ) → head_written rules.fresh (laid (replicate state_size 0) state) ≡ laid (replicate state_size 0) state
fresh-written state = refl

pub fresh_says : (state : List ℕ) → state_size ≤ length state → view (state_at (fresh_left state).state) ≡ rules.fresh
unfolding fresh_left used
fresh_says state long =
    rw (le-leb state_size (length state) long) (ap view (said_at (laid (replicate state_size 0) state) (zeros_held state long)))

-- childbus_receive

module _ (p : paper.Profile) (s : rules.State) (a : ℕ) (f d : List ℕ) (n : ℕ) where
  -- a number below 2 is no refusal
  kept_unrefused : (received p s a f d n).number < 2 → Unrefused p s (length d) n
  kept_unrefused h =
      by_test (eqb (refusal p s (length d) n) 0)
      (λ e. refusal_unrefused p s (length d) n (eqb-true _ _ e))
      (λ e.
      let least : 2 ≤ refusal p s (length d) n = refusal_least p s (length d) n e in
      let expected_effect : (received p s a f d n).number ≡ refusal p s (length d) n =
      ap (λ (c : Called). c.number) (received-refused p s d a f n (λ q. omega arith)) in
      absurd (omega arith))

-- bytes that say a well-formed state hold one
pub formed_held : (p : paper.Profile) (state : List ℕ) → well_formed p (view (state_at state)) ≡ true → state_held state ≡ true
formed_held p state formed =
    by_test (state_held state) (λ e. e) (λ e. absurd (false≢true (sym (state_malformed p state e) ∙ formed)))

module _ (profile state : List ℕ) (address : ℕ) (frame flash out : List ℕ) where
  module _ (h : (received_left profile state address frame flash out).number < 2) where
    unrefused : Unrefused (profile_of (profile_at profile)) (view (state_at state)) (length flash) (length out)
    unfolding received_left
    unrefused = kept_unrefused (profile_of (profile_at profile)) (view (state_at state)) address frame flash (length out) h

    fits : StateFits (call_of profile state address frame flash out).state
    fits =
        state_fits (profile_of (profile_at profile)) _ unrefused.in_range_holds
        (received_formed_call (profile_of (profile_at profile)) (view (state_at state)) flash address frame (length out)
        unrefused.well_formed_holds).well_formed_holds

    long : state_size ≤ length state
    long = held_long state (formed_held (profile_of (profile_at profile)) state unrefused.well_formed_holds)

    written : (received_left profile state address frame flash out).state
        ≡ state_written (call_of profile state address frame flash out).state state
    unfolding received_left
    written = rw (lt-ltb (call_of profile state address frame flash out).number 2 h)

    pub kept_says : view (state_at (received_left profile state address frame flash out).state)
        ≡ (call_of profile state address frame flash out).state
    kept_says =
        ap (λ (b : List ℕ). view (state_at b)) written ∙ state_read (call_of profile state address frame flash out).state state fits long

    pub kept_rest : RestKept (call_of profile state address frame flash out).state state
        (received_left profile state address frame flash out).state
    kept_rest = rw written (rest_kept (call_of profile state address frame flash out).state state fits long)

  pub refused_says : 2 ≤ (received_left profile state address frame flash out).number
      → (received_left profile state address frame flash out).state ≡ state
  unfolding received_left
  refused_says h = rw (le-ltb (call_of profile state address frame flash out).number 2 h)
