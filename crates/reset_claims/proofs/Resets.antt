-- The reset resets every board of its bus: it is the general call, which is heard in every state.
use mathlib.Core.Path.{◌≡◌, sym, ap, subst, ◌∙◌}
use mathlib.Core.List.{List}
use Prim.Native.Nat.{ℕ, ◌<◌}
use native.Mathlib.Omega.{arith}
use lib.Dec.{eqb}
use lib.ListN.{length}
use borrow.Author.Tests.{eqb-true, eqb-false}
use Rattle.rules.specs.declared.kinds.Bus.{Bus}
use Rattle.rules.specs.Profile.{Profile}
use Rattle.rules.specs.State.{State, fresh}
use Rattle.rules.specs.Numbers.{refusal}
use Rattle.rules.specs.Frames.{reset_frame}
use Rattle.rules.specs.Board.{Called, nothing, handled, received}
use Rattle.laws.proofs.TestLaws.{by_test}
use Rattle.laws.proofs.BoardLaws.{received-handled, received-refused, refusal_least}
use Rattle.ledger.specs.Calls.{reaction, ruled}
use Rattle.roundtrip.specs.Sending.{Beside}
use Rattle.roundtrip.proofs.Requests.{verdict_reset}
use Rattle.reset_claims.specs.Running.{ResetInput, Written, reset_bytes, ResetsBoards}
use Rattle.reset_claims.proofs.Written.{bytes_are}

-- a number below 2: none of 2 to 5 applies
pub unrefused : (p : Profile) (s : State) (a : ℕ) (f d : List ℕ) (n : ℕ) → (received p s a f d n).number < 2
    → refusal p s (length d) n ≡ 0
unrefused p s a f d n few =
    by_test (eqb (refusal p s (length d) n) 0) (λ e. eqb-true _ _ e)
    (λ e.
    let number_is = ap (λ (c : Called). c.number) (received-refused p s d a f n (eqb-false _ _ e)) in
    absurd (omega (arith, few, number_is, refusal_least p s (length d) n e)))

module _ (q : ResetInput) (p : Profile) (s : State) (d : List ℕ) (a n : ℕ) (written : Written q) (same-bus : p.bus ≡ q.bus)
    (general : Beside q.bus a 0) (none : refusal p s (length d) n ≡ 0) where
  pub received_reset : received p s a (reset_bytes q) d n ≡ nothing fresh d
  unfolding handled
  received_reset =
      let to-all : Beside p.bus a 0 = subst (λ (b : Bus). Beside b a 0) (sym same-bus) general in
      let frame_is : reset_bytes q ≡ reset_frame p.bus = bytes_are q written ∙ ap reset_frame (sym same-bus) in
      received-handled p s d a (reset_bytes q) n none
      ∙ rw (frame_is, verdict_reset p.bus p.longest s.running s.address a to-all)

pub resets_boards : ResetsBoards ruled
resets_boards q p s d a n written same-bus general few =
    ap reaction (received_reset q p s d a n written same-bus general (unrefused p s a (reset_bytes q) d n few))
