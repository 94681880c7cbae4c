-- The past follows every received frame: a refused call answers 2 or above, which tells nothing; a frame with nothing to send tells of the
-- two general calls and of start alone; the rest is `Followed`.
use mathlib.Core.Path.{◌≡◌, refl}
use mathlib.Core.Bool.{true, false, not, and-false}
use mathlib.Core.List.{List, []}
use Prim.Native.Nat.{ℕ}
use lib.Dec.{eqb}
use lib.ListN.{length}
use borrow.Author.Tests.{eqb-true, eqb-false}
use Rattle.rules.specs.declared.kinds.Reason.{Reason}
use Rattle.rules.specs.declared.kinds.Verdict.{Verdict}
use Rattle.rules.specs.declared.kinds.Verdict.TheVariants.{Ignored}
use Rattle.rules.specs.Profile.{Profile}
use Rattle.rules.specs.State.{State}
use Rattle.rules.specs.Numbers.{ignored_number, refusal}
use Rattle.rules.specs.Frames.{reset_frame, reset_address_frame, is_general, framing, verdict}
use Rattle.rules.specs.Responses.{invalid_transfer, invalid_crc}
use Rattle.rules.specs.Board.{nothing, refused, handled, received}
use Rattle.laws.proofs.TestLaws.{by_test}
use Rattle.laws.proofs.VerdictLaws.{framing_cases, verdict_cases}
use Rattle.laws.proofs.BoardLaws.{ignored-number, received-handled, received-refused, refusal_least}
use Rattle.demands.specs.Past.{past_of, well_framed, after_frame}
use Rattle.demands.proofs.PastLaws.{after_silence, after-refusal}
use Rattle.demands.proofs.Followed.{Follows, refused_followed, executed_followed}

module _ (p : Profile) (s : State) (a : ℕ) (f d : List ℕ) where
  -- an ignored frame that is no general call
  silent_followed : (reason : Reason) → is_general p.bus a f (reset_frame p.bus) ≡ false
      → is_general p.bus a f (reset_address_frame p.bus) ≡ false
      → framing p.bus p.longest s.address a f ≡ Ignored reason → Follows p s a f (refused (ignored_number reason) s d)
  unfolding well_framed
  silent_followed reason no_reset no_address is =
      ignored-number (λ (n : ℕ). Follows p s a f (refused n s d)) reason
      (after_silence p (past_of s) a f [] no_reset (rw no_address (and-false (not s.running)))
      (rw (is, and-false (not s.running))))
      (λ n h. after-refusal p (past_of s) a f n [] h)

  running_followed : is_general p.bus a f (reset_frame p.bus) ≡ false → s.running ≡ true → Follows p s a f (nothing s d)
  unfolding well_framed
  running_followed no_reset running = after_silence p (past_of s) a f [] no_reset (rw running) (rw running)

  handled_followed : Follows p s a f (handled p s a f d (verdict p.bus p.longest s.running s.address a f))
  unfolding handled after_frame well_framed
  handled_followed =
      verdict_cases p.bus p.longest s.running s.address a f (λ (v : Verdict). Follows p s a f (handled p s a f d v))
      (record {
        reset = λ e. rw e;
        run = running_followed;
        reset_address = λ no_reset stopped e. rw (no_reset, stopped, e);
        framed = λ no_reset stopped no_address.
            framing_cases p.bus p.longest s.address a f
            (λ (v : Verdict). framing p.bus p.longest s.address a f ≡ v → Follows p s a f (handled p s a f d v))
            (record {
              silent = λ reason. silent_followed reason no_reset no_address;
              bad_transfer = λ b is. refused_followed p s a f d invalid_transfer refl;
              bad_sum = λ b is. refused_followed p s a f d invalid_crc refl;
              command = λ framed is. executed_followed p s a f d (rw (stopped, is)) no_reset no_address;
            })
            refl;
      })

  pub received_followed : (n : ℕ) → Follows p s a f (received p s a f d n)
  received_followed n =
      by_test (eqb (refusal p s (length d) n) 0) (λ e. rw (received-handled p s d a f n (eqb-true _ _ e)) handled_followed)
      (λ e.
      rw (received-refused p s d a f n (eqb-false _ _ e))
      (after-refusal p (past_of s) a f (refusal p s (length d) n) [] (refusal_least p s (length d) n e)))
