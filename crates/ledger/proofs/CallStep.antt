-- One board call: if state and flash are the ledger's before it, they are after it. By the numbers 2 to 5, then by the verdict on the
-- frame, in the order in which the rules ask.
use mathlib.Core.Path.{◌≡◌, refl, ◌∙◌}
use mathlib.Core.Bool.{false}
use mathlib.Core.List.{List, []}
use Prim.Native.Nat.{ℕ}
use lib.Dec.{eqb}
use lib.ListN.{length}
use borrow.Author.Tests.{eqb-true}
use Rattle.rules.specs.declared.kinds.Address.TheVariants.{DefaultRange}
use Rattle.rules.specs.declared.kinds.Verdict.{Verdict}
use Rattle.rules.specs.Profile.{Profile}
use Rattle.rules.specs.State.{State}
use Rattle.rules.specs.Numbers.{refusal, Unrefused}
use Rattle.rules.specs.Frames.{destination, framing, verdict}
use Rattle.rules.specs.Responses.{invalid_transfer, invalid_crc}
use Rattle.rules.specs.Board.{address_reset, refused, handled, received, read_out, read_answered}
use Rattle.laws.proofs.BoardLaws.{ignored-number, refusal_least}
use Rattle.laws.proofs.StateLaws.{refusal_unrefused}
use Rattle.laws.proofs.TestLaws.{by_test}
use Rattle.laws.proofs.VerdictLaws.{framing_cases, verdict_cases}
use Rattle.ledger.specs.Ledger.{Ledger, reset_form}
use Rattle.ledger.proofs.FrameReading.{reset_form_lem}
use Rattle.ledger.proofs.Kept.{Keeps, keeps_other, Entered, refused_no_entry, nothing_no_entry, reset_enters, error_no_entry}
use Rattle.ledger.proofs.UploadStep.{Serving, unrefused_serving, serving_keeps}
use Rattle.ledger.proofs.CommandStep.{executed_enters}

-- a frame by its verdict

module _ (p : Profile) (s : State) (d : List ℕ) (k : Ledger) (a : ℕ) (f : List ℕ) where
  abbrev Handles : Verdict → Type 0
  Handles v = Entered p k a f (handled p s a f d v)

  framing_handles : Serving p s d k → reset_form p.bus a f ≡ false → Handles (framing p.bus p.longest s.address a f)
  unfolding handled
  framing_handles h form =
      let kept = serving_keeps p s d k h in
      framing_cases p.bus p.longest s.address a f Handles
      (record {
        silent = λ reason.
            ignored-number (λ (n : ℕ). Entered p k a f (refused n s d)) reason (nothing_no_entry p k a f s d form kept)
            (λ n h. refused_no_entry p k a f n s d h kept);
        bad_transfer = λ i2c. error_no_entry p k a f (destination p.bus a f) invalid_transfer [] s d refl kept;
        bad_sum = λ i2c. error_no_entry p k a f (destination p.bus a f) invalid_crc [] s d refl kept;
        command = λ framed. executed_enters p s d k a f (destination p.bus a f) h form;
      })

  verdict_handles : (m : ℕ) → Unrefused p s (length d) m → Keeps p s d k
      → Handles (verdict p.bus p.longest s.running s.address a f)
  unfolding handled
  verdict_handles m unrefused i =
      let form = reset_form_lem p.bus a f in
      verdict_cases p.bus p.longest s.running s.address a f Handles
      (record {
        reset = λ e. reset_enters p k a f s d (form ∙ e) i;
        run = λ other on. nothing_no_entry p k a f s d (form ∙ other) i;
        reset_address = λ other off e. nothing_no_entry p k a f (address_reset s) d (form ∙ other) (keeps_other p s d k DefaultRange [] i);
        framed = λ other off e. framing_handles (unrefused_serving p s d k m unrefused off i) (form ∙ other);
      })

-- a received frame
pub received_enters : (p : Profile) (s : State) (d : List ℕ) (k : Ledger) (a : ℕ) (f : List ℕ) (m : ℕ) → Keeps p s d k
    → Entered p k a f (received p s a f d m)
unfolding received
received_enters p s d k a f m i =
    by_test (eqb (refusal p s (length d) m) 0)
    (λ e. rw e (verdict_handles p s d k a f m (refusal_unrefused p s (length d) m (eqb-true _ _ e)) i))
    (λ e. rw e (refused_no_entry p k a f (refusal p s (length d) m) s d (refusal_least p s (length d) m e) i))

-- an I²C read
pub read_out_keeps : (p : Profile) (s : State) (d : List ℕ) (k : Ledger) (a m : ℕ) → Keeps p s d k
    → Keeps p (read_out p s a d m).state (read_out p s a d m).flash k
unfolding read_out
read_out_keeps p s d k a m i =
    by_test (eqb (refusal p s (length d) m) 0)
    (λ e. rw e (by_test (read_answered p.bus s a) (λ some. rw some i) (λ none. rw none i)))
    (λ e. rw e i)
