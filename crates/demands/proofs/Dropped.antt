-- W3: a frame that the rules ignore on RS485 gets the first of 15 to 18 that applies, and no other frame gets a number of 2 or above.
-- Both sides test in the same order, so each case of the verdict is one case of `dropped`.
use mathlib.Core.Path.{◌≡◌, refl}
use mathlib.Core.Logic.{◌⊎◌, inl, inr}
use mathlib.Core.Bool.{true, false, ◌||◌}
use mathlib.Core.List.{List, [], ◌∷◌}
use Prim.Native.Nat.{ℕ, ◌≤◌}
use native.Mathlib.Omega.{arith}
use lib.Dec.{eqb, ltb}
use lib.ListN.{length, get_or}
use borrow.Author.Tests.{le-ltb}
use Rattle.rules.specs.declared.kinds.Bus.{Bus}
use Rattle.rules.specs.declared.kinds.Bus.TheVariants.{I2c, Rs485}
use Rattle.rules.specs.declared.kinds.Address.{Address}
use Rattle.rules.specs.declared.kinds.Reason.TheVariants.{Running, Short, Long, WrongSum, Foreign, OtherGeneral}
use Rattle.rules.specs.declared.kinds.Verdict.{Verdict}
use Rattle.rules.specs.declared.kinds.Verdict.TheVariants.{Reset, ResetAddress, Ignored, BadTransfer, BadSum, Command}
use Rattle.rules.specs.Bytes.{same}
use Rattle.rules.specs.Profile.{Profile}
use Rattle.rules.specs.State.{State}
use Rattle.rules.specs.CheckSums.{sealed, sum_right}
use Rattle.rules.specs.Frames.{shortest_request, addressed, answers_to, framing, is_general, reset_frame, reset_address_frame, verdict}
use Rattle.rules.specs.Frames.{destination, command_of, arguments_of}
use Rattle.rules.specs.Commands.{executed}
use Rattle.rules.specs.Board.{refused, handled}
use Rattle.laws.proofs.TestLaws.{by_test, &&_true}
use Rattle.laws.proofs.BytesLaws.{same_true}
use Rattle.laws.proofs.CheckSumLaws.{length-sealed, sum_right-sealed}
use Rattle.laws.proofs.VerdictLaws.{verdict_cases}
use Rattle.laws.proofs.BoardLaws.{finished_call-number}
use Rattle.demands.specs.Past.{Past, past_of}
use Rattle.demands.specs.Acceptance.{dropped}

-- a claim on a verdict with the number of a dropped frame
record Drops (P : Verdict → ℕ → Type 0) : Type 0 where
  short : P (Ignored Short) 15
  long : P (Ignored Long) 16
  wrong_sum : P (Ignored WrongSum) 17
  foreign : P (Ignored (Foreign Rs485)) 18
  foreign_i2c : P (Ignored (Foreign I2c)) 0
  other_general : P (Ignored OtherGeneral) 0
  bad_transfer : P BadTransfer 0
  bad_sum : P BadSum 0
  command : P Command 0

-- on RS485 a board hears its own address, or the default range, but never 0
heard_by : (own : Address) (a : ℕ) → eqb a 0 ≡ false → addressed Rs485 own a ≡ answers_to own a
unfolding addressed
heard_by own a e = rw e

framing_drops : (bus : Bus) (M : ℕ) (past : Past) (a : ℕ) (f : List ℕ) (P : Verdict → ℕ → Type 0) → past.running ≡ false → Drops P
    → P (framing bus M past.address a f) (dropped bus M past f)
unfolding framing
framing_drops I2c M past a f P stopped c =
    by_test (eqb a 0) (λ e. rw e c.other_general)
    (λ e. rw e
    (by_test (addressed I2c past.address a)
    (λ e. rw e
    (by_test (ltb (length f) (shortest_request I2c) || ltb M (length f)) (λ e. rw e c.bad_transfer)
    (λ e. rw e (by_test (sum_right I2c f) (λ e. rw e c.command) (λ e. rw e c.bad_sum)))))
    (λ e. rw e c.foreign_i2c)))
framing_drops Rs485 M past a f P stopped c =
    rw stopped
    (by_test (ltb (length f) 4) (λ e. rw e c.short)
    (λ e. rw e
    (by_test (ltb M (length f)) (λ e. rw e c.long)
    (λ e. rw e
    (by_test (sum_right Rs485 f)
    (λ e. rw e
    (by_test (eqb (get_or f 0 0) 0) (λ e. rw e c.other_general)
    (λ e.
    rw (e, heard_by past.address (get_or f 0 0) e)
    (by_test (answers_to past.address (get_or f 0 0)) (λ e. rw e c.command) (λ e. rw e c.foreign)))))
    (λ e. rw e c.wrong_sum))))))

-- while running nothing is dropped, and neither general call ever is
running_taken : (bus : Bus) (M : ℕ) (past : Past) (f : List ℕ) → past.running ≡ true → dropped bus M past f ≡ 0
running_taken I2c M past f e = refl
running_taken Rs485 M past f e = rw e

general_sealed : (M : ℕ) (past : Past) (code : ℕ) → 32 ≤ M → dropped Rs485 M past (sealed Rs485 (0 ∷ code ∷ [])) ≡ 0
unfolding sealed
general_sealed M past code long =
    by_test past.running (λ e. rw e)
    (λ e. rw (e, length-sealed Rs485 (0 ∷ code ∷ []), le-ltb M 4 (omega arith), sum_right-sealed Rs485 (0 ∷ code ∷ []), to-zero))
  where
    to-zero : get_or (sealed Rs485 (0 ∷ code ∷ [])) 0 0 ≡ 0
    to-zero = refl

general_taken : (bus : Bus) (M : ℕ) (past : Past) (a : ℕ) (f : List ℕ) → 32 ≤ M
    → (is_general bus a f (reset_frame bus) ≡ true) ⊎ (is_general bus a f (reset_address_frame bus) ≡ true) → dropped bus M past f ≡ 0
unfolding reset_frame reset_address_frame
general_taken I2c M past a f long e = refl
general_taken Rs485 M past a f long (inl e) =
    rw (same_true f (reset_frame Rs485) (&&_true (eqb (get_or f 0 0) 0) (same f (reset_frame Rs485)) e).1) (general_sealed M past 0x46 long)
general_taken Rs485 M past a f long (inr e) =
    rw (same_true f (reset_address_frame Rs485) (&&_true (eqb (get_or f 0 0) 0) (same f (reset_address_frame Rs485)) e).1)
    (general_sealed M past 0x44 long)

-- what a verdict's frame gets, by the number of a dropped frame
module _ (p : Profile) (s : State) (a : ℕ) (f d : List ℕ) where
  pub record Agrees (v : Verdict) (m : ℕ) : Type 0 where
    pub drops : (m ≡ 0 → ⊥) → handled p s a f d v ≡ refused m s d
    pub takes : m ≡ 0 → (handled p s a f d v).number ≤ 1

  -- a dropped frame, and one that is none
  is_dropped : (v : Verdict) (m : ℕ) → handled p s a f d v ≡ refused m s d → (m ≡ 0 → ⊥) → Agrees v m
  is_dropped v m e some = record { drops = λ h. e; takes = λ none. absurd (some none) }

  is_taken : (v : Verdict) (m : ℕ) → m ≡ 0 → (handled p s a f d v).number ≤ 1 → Agrees v m
  is_taken v m none small = record { drops = λ some. absurd (some none); takes = λ e. small }

  pub handled_drops : 32 ≤ p.longest
      → Agrees (verdict p.bus p.longest s.running s.address a f) (dropped p.bus p.longest (past_of s) f)
  unfolding handled
  handled_drops long =
      let number : ℕ = dropped p.bus p.longest (past_of s) f in
      verdict_cases p.bus p.longest s.running s.address a f (λ (v : Verdict). Agrees v number)
      (record {
        reset = λ e. is_taken Reset number (general_taken p.bus p.longest (past_of s) a f long (inl e)) (omega arith);
        run = λ other e. is_taken (Ignored Running) number (running_taken p.bus p.longest (past_of s) f e) (omega arith);
        reset_address = λ other stopped e.
            is_taken ResetAddress number (general_taken p.bus p.longest (past_of s) a f long (inr e)) (omega arith);
        framed = λ other stopped e.
            framing_drops p.bus p.longest (past_of s) a f Agrees stopped
            (record {
              short = is_dropped (Ignored Short) 15 refl (λ e. absurd (omega arith));
              long = is_dropped (Ignored Long) 16 refl (λ e. absurd (omega arith));
              wrong_sum = is_dropped (Ignored WrongSum) 17 refl (λ e. absurd (omega arith));
              foreign = is_dropped (Ignored (Foreign Rs485)) 18 refl (λ e. absurd (omega arith));
              foreign_i2c = is_taken (Ignored (Foreign I2c)) 0 refl (omega arith);
              other_general = is_taken (Ignored OtherGeneral) 0 refl (omega arith);
              bad_transfer = is_taken BadTransfer 0 refl (omega arith);
              bad_sum = is_taken BadSum 0 refl (omega arith);
              command = is_taken Command 0 refl
                  (finished_call-number p.bus (destination p.bus a f)
                  (executed p s (command_of p.bus f) (arguments_of p.bus f) d));
            });
      })
