-- Demand 1, frames to ignore. A foreign or damaged frame is neither the reset nor a command to this board, and every other verdict keeps
-- flash and upload.
use mathlib.Core.Path.{◌≡◌, refl, sym, ap, ◌∙◌}
use mathlib.Core.Logic.{inl, inr}
use mathlib.Core.Bool.{Bool, true, false, not, ◌&&◌, true≢false}
use mathlib.Core.List.{List, []}
use Prim.Native.Nat.{ℕ}
use lib.Dec.{eqb}
use lib.ListN.{length}
use borrow.Author.Tests.{eqb-true, eqb-false}
use Rattle.rules.specs.declared.kinds.Bus.{Bus}
use Rattle.rules.specs.declared.kinds.Bus.TheVariants.{I2c, Rs485}
use Rattle.rules.specs.declared.kinds.Verdict.{Verdict}
use Rattle.rules.specs.Bytes.{same}
use Rattle.rules.specs.Profile.{Profile}
use Rattle.rules.specs.State.{State}
use Rattle.rules.specs.Numbers.{refusal}
use Rattle.rules.specs.CheckSums.{sum_right}
use Rattle.rules.specs.Frames.{reply, destination, addressed, reset_frame, is_general, verdict}
use Rattle.rules.specs.Responses.{invalid_transfer, invalid_crc}
use Rattle.rules.specs.Board.{handled, received}
use Rattle.laws.proofs.TestLaws.{by_test, &&_true}
use Rattle.laws.proofs.VerdictLaws.{Framed, framing_cases, verdict_cases}
use Rattle.laws.proofs.BoardLaws.{with_reply-upload, received-handled, received-refused}
use Rattle.laws.proofs.BytesLaws.{same_true}
use Rattle.laws.proofs.CheckSumLaws.{sum_right-sealed}
use Rattle.demands.specs.Untouched.{foreign, summed, damaged, IgnoredFrames}

-- it is no reset and no command to this board
record Ignored (p : Profile) (s : State) (a : ℕ) (f : List ℕ) : Type 0 where
  not_reset : is_general p.bus a f (reset_frame p.bus) ≡ true → ⊥
  not_framed : Framed p.bus p.longest s.address a f → ⊥

-- a test and its opposite do not both hold
both : (b : Bool) → b ≡ true → not b ≡ true → ⊥
both true e n = true≢false (sym n)
both false e n = true≢false (sym e)

foreign-ignored : (p : Profile) (s : State) (a : ℕ) (f : List ℕ) → foreign p s.address a f ≡ true → Ignored p s a f
foreign-ignored p s a f e =
    let parts =
    &&_true (not (addressed p.bus s.address (destination p.bus a f))) (not (eqb (destination p.bus a f) 0)) e in
    record {
      not_reset =
          λ g. both (eqb (destination p.bus a f) 0)
          (&&_true (eqb (destination p.bus a f) 0) (same f (reset_frame p.bus)) g).0 parts.1;
      not_framed = λ h. both (addressed p.bus s.address (destination p.bus a f)) h.heard parts.0;
    }

-- the RS485 reset ends in its check sum, the I²C reset is exempt
damaged_no_reset : (bus : Bus) (a : ℕ) (f : List ℕ) → summed bus a f ≡ true → not (sum_right bus f) ≡ true
    → is_general bus a f (reset_frame bus) ≡ true → ⊥
unfolding reset_frame
damaged_no_reset I2c a f e wrong g = both (eqb a 0 && same f (reset_frame I2c)) g e
damaged_no_reset Rs485 a f e wrong g =
    let is : f ≡ reset_frame Rs485 =
    same_true f (reset_frame Rs485) (&&_true (eqb (destination Rs485 a f) 0) (same f (reset_frame Rs485)) g).1 in
    both (sum_right Rs485 f) (ap (sum_right Rs485) is ∙ sum_right-sealed Rs485 _) wrong

damaged-ignored : (p : Profile) (s : State) (a : ℕ) (f : List ℕ) → damaged p a f ≡ true → Ignored p s a f
damaged-ignored p s a f e =
    let parts = &&_true (summed p.bus a f) (not (sum_right p.bus f)) e in
    record {
      not_reset = damaged_no_reset p.bus a f parts.0 parts.1;
      not_framed =
          λ h. both (sum_right p.bus f) h.sum_right_holds parts.1;
    }

-- every other verdict keeps flash and upload
abbrev Keeps : Profile → State → ℕ → List ℕ → List ℕ → Verdict → Type 0
Keeps p s a f d v = ((handled p s a f d v).flash ≡ d) × ((handled p s a f d v).state.upload ≡ s.upload)

ignored_kept : (p : Profile) (s : State) (a : ℕ) (f d : List ℕ) → Ignored p s a f
    → Keeps p s a f d (verdict p.bus p.longest s.running s.address a f)
unfolding handled
ignored_kept p s a f d stray =
    let status : ℕ → List ℕ = λ n. reply p.bus (destination p.bus a f) n [] in
    verdict_cases p.bus p.longest s.running s.address a f (Keeps p s a f d)
    (record {
      reset = λ e. absurd (stray.not_reset e);
      run = λ g e. (refl, refl);
      reset_address = λ g e r. (refl, refl);
      framed = λ g e r.
          framing_cases p.bus p.longest s.address a f (Keeps p s a f d)
          (record {
            silent = λ reason. (refl, refl);
            bad_transfer = λ b. (refl, with_reply-upload p.bus s (status invalid_transfer));
            bad_sum = λ b. (refl, with_reply-upload p.bus s (status invalid_crc));
            command = λ framed. absurd (stray.not_framed framed);
          });
    })

received_kept : (p : Profile) (s : State) (a : ℕ) (f d : List ℕ) (n : ℕ) → Ignored p s a f
    → ((received p s a f d n).flash ≡ d) × ((received p s a f d n).state.upload ≡ s.upload)
received_kept p s a f d n stray =
    by_test (eqb (refusal p s (length d) n) 0)
    (λ e. rw (received-handled p s d a f n (eqb-true _ _ e)) (ignored_kept p s a f d stray))
    (λ e. rw (received-refused p s d a f n (eqb-false _ _ e)) (refl, refl))

pub ignored_frames : IgnoredFrames
ignored_frames p s a f d n (inl e) = received_kept p s a f d n (foreign-ignored p s a f e)
ignored_frames p s a f d n (inr e) = received_kept p s a f d n (damaged-ignored p s a f e)
