-- Laws of the verdict on a frame: each case with what is known there, so that a claim over all frames is proved case by case.
use mathlib.Core.Path.{◌≡◌, refl}
use mathlib.Core.Bool.{Bool, true, false, ◌||◌, false≢true}
use mathlib.Core.List.{List}
use Prim.Native.Nat.{ℕ, ◌≤◌}
use lib.Dec.{eqb, ltb}
use lib.ListN.{length, get_or}
use borrow.Author.Tests.{ltb-false}
use Rattle.rules.specs.declared.kinds.Bus.{Bus}
use Rattle.rules.specs.declared.kinds.Bus.TheVariants.{I2c, Rs485}
use Rattle.rules.specs.declared.kinds.Address.{Address}
use Rattle.rules.specs.declared.kinds.Reason.{Reason}
use Rattle.rules.specs.declared.kinds.Reason.TheVariants.{Running, Short, Long, WrongSum, Foreign, OtherGeneral}
use Rattle.rules.specs.declared.kinds.Verdict.{Verdict}
use Rattle.rules.specs.declared.kinds.Verdict.TheVariants.{Reset, ResetAddress, Ignored, BadTransfer, BadSum, Command}
use Rattle.rules.specs.CheckSums.{sum_right}
use Rattle.rules.specs.Frames.{shortest_request, reset_frame, reset_address_frame, destination, addressed, framing, is_general, verdict}
use Rattle.rules.specs.Frames.{is_command}
use Rattle.laws.proofs.TestLaws.{by_test, ||_false}

-- a well-framed command to this board
pub record Framed (bus : Bus) (M : ℕ) (own : Address) (a : ℕ) (f : List ℕ) : Type 0 where
  pub not_general : eqb (destination bus a f) 0 ≡ false
  pub heard : addressed bus own (destination bus a f) ≡ true
  pub length_least : shortest_request bus ≤ length f
  pub length_most : length f ≤ M
  pub sum_right_holds : sum_right bus f ≡ true

-- a claim on the verdicts of `framing`
pub record Framings (bus : Bus) (M : ℕ) (own : Address) (a : ℕ) (f : List ℕ) (P : Verdict → Type 0) : Type 0 where
  pub silent : (reason : Reason) → P (Ignored reason)
  pub bad_transfer : bus ≡ I2c → P BadTransfer
  pub bad_sum : bus ≡ I2c → P BadSum
  pub command : Framed bus M own a f → P Command

pub framing_cases : (bus : Bus) (M : ℕ) (own : Address) (a : ℕ) (f : List ℕ) (P : Verdict → Type 0) → Framings bus M own a f P
    → P (framing bus M own a f)
unfolding framing
framing_cases I2c M own a f P c =
    by_test (eqb a 0) (λ e. rw e (c.silent OtherGeneral))
    (λ not_general. rw not_general
    (by_test (addressed I2c own a)
    (λ heard. rw heard
    (by_test (ltb (length f) (shortest_request I2c) || ltb M (length f)) (λ e. rw e (c.bad_transfer refl))
    (λ sized. rw sized
    (by_test (sum_right I2c f)
    (λ sum. rw sum
    (let size = ||_false (ltb (length f) (shortest_request I2c)) (ltb M (length f)) sized in
    c.command (record {
      not_general = not_general;
      heard = heard;
      length_least = ltb-false _ _ size.0;
      length_most =
          ltb-false _ _ size.1;
      sum_right_holds = sum;
    })))
    (λ e. rw e (c.bad_sum refl))))))
    (λ e. rw e (c.silent (Foreign I2c)))))
framing_cases Rs485 M own a f P c =
    by_test (ltb (length f) (shortest_request Rs485)) (λ e. rw e (c.silent Short))
    (λ least. rw least
    (by_test (ltb M (length f)) (λ e. rw e (c.silent Long))
    (λ most. rw most
    (by_test (sum_right Rs485 f)
    (λ sum. rw sum
    (by_test (eqb (get_or f 0 0) 0) (λ e. rw e (c.silent OtherGeneral))
    (λ not_general. rw not_general
    (by_test (addressed Rs485 own (get_or f 0 0))
    (λ heard. rw heard
    (c.command (record {
      not_general = not_general;
      heard = heard;
      length_least = ltb-false _ _ least;
      length_most = ltb-false _ _ most;
      sum_right_holds = sum;
    })))
    (λ e. rw e (c.silent (Foreign Rs485)))))))
    (λ e. rw e (c.silent WrongSum))))))

-- a claim on the verdicts
pub record Verdicts (bus : Bus) (M : ℕ) (running : Bool) (own : Address) (a : ℕ) (f : List ℕ) (P : Verdict → Type 0) : Type 0 where
  pub reset : is_general bus a f (reset_frame bus) ≡ true → P Reset
  pub run : is_general bus a f (reset_frame bus) ≡ false → running ≡ true → P (Ignored Running)
  pub reset_address : is_general bus a f (reset_frame bus) ≡ false → running ≡ false → is_general bus a f (reset_address_frame bus) ≡ true
      → P ResetAddress
  pub framed : is_general bus a f (reset_frame bus) ≡ false → running ≡ false → is_general bus a f (reset_address_frame bus) ≡ false
      → P (framing bus M own a f)

pub verdict_cases : (bus : Bus) (M : ℕ) (running : Bool) (own : Address) (a : ℕ) (f : List ℕ) (P : Verdict → Type 0)
    → Verdicts bus M running own a f P → P (verdict bus M running own a f)
unfolding verdict
verdict_cases bus M running own a f P c =
    by_test (is_general bus a f (reset_frame bus)) (λ e. rw e (c.reset e))
    (λ other. rw other
    (by_test running (λ e. rw e (c.run other e))
    (λ stopped. rw stopped
    (by_test (is_general bus a f (reset_address_frame bus)) (λ e. rw e (c.reset_address other stopped e))
    (λ e. rw e (c.framed other stopped e))))))

-- a frame whose verdict is a command is well framed and to this board
pub framing_framed : (bus : Bus) (M : ℕ) (own : Address) (a : ℕ) (f : List ℕ) → is_command (framing bus M own a f) ≡ true
    → Framed bus M own a f
framing_framed bus M own a f =
    framing_cases bus M own a f (λ (v : Verdict). is_command v ≡ true → Framed bus M own a f)
    (record {
      silent = λ reason e. absurd (false≢true e);
      bad_transfer = λ b e. absurd (false≢true e);
      bad_sum = λ b e. absurd (false≢true e);
      command = λ framed e. framed;
    })

pub verdict_framed : (bus : Bus) (M : ℕ) (running : Bool) (own : Address) (a : ℕ) (f : List ℕ)
    → is_command (verdict bus M running own a f) ≡ true → Framed bus M own a f
verdict_framed bus M running own a f =
    verdict_cases bus M running own a f (λ (v : Verdict). is_command v ≡ true → Framed bus M own a f)
    (record {
      reset = λ g e. absurd (false≢true e);
      run = λ g r e. absurd (false≢true e);
      reset_address = λ g r h e. absurd (false≢true e);
      framed = λ g r h. framing_framed bus M own a f;
    })
