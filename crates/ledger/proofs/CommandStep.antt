-- A well-framed command, by its code: write and finalize are `UploadStep`'s, all others leave the upload as it is, and start loses the
-- waiting bytes of a board that then takes none before a reset.
use mathlib.Core.Path.{◌≡◌, refl, sym}
use mathlib.Core.Bool.{true, false, false≢true}
use mathlib.Core.List.{List, [], ◌∷◌}
use Prim.Native.Nat.{ℕ, ◌≤◌}
use lib.Dec.{eqb, leb}
use lib.ListN.{length, get_or}
use borrow.Author.Tests.{leb-true}
use Rattle.rules.specs.Profile.{Profile}
use Rattle.rules.specs.State.{State}
use Rattle.rules.specs.Frames.{two_bytes, number_at, command_of, arguments_of}
use Rattle.rules.specs.Responses.{Acted, replying, command_not_supported, invalid_arguments, ok}
use Rattle.rules.specs.Commands.{executed, set_address, serial_number, started, shown, length_allowed, tabled, hardware_info}
use Rattle.rules.specs.Commands.{readable}
use Rattle.rules.specs.Board.{finished_call}
use Rattle.laws.proofs.TestLaws.{by_test, &&_true}
use Rattle.laws.proofs.CommandLaws.{set_address_cases, executed_cases}
use Rattle.ledger.specs.Ledger.{Ledger, reset_form}
use Rattle.ledger.proofs.Kept.{Keeps, keeps_other, Entered, error_no_entry, other_no_entry, no_reply_no_entry}
use Rattle.ledger.proofs.UploadStep.{Serving, serving_keeps, finished_enters, written_enters}

-- a write has at least its address
pub write_long : (n : ℕ) → length_allowed 0x06 n ≡ true → 2 ≤ n
unfolding tabled
write_long n h = leb-true 2 n (&&_true (leb 2 n) (leb n 254) h).0

module _ (p : Profile) (s : State) (d : List ℕ) (k : Ledger) (a : ℕ) (f : List ℕ) (to : ℕ) (h : Serving p s d k)
    (form : reset_form p.bus a f ≡ false) where
  abbrev Enters : Acted → Type 0
  Enters act = Entered p k a f (finished_call p.bus to act)

  kept : Keeps p s d k
  kept = serving_keeps p s d k h

  -- a reply to another command than write and finalize
  tells : (c status : ℕ) (results : List ℕ) → command_of p.bus f ≡ c → eqb c 0x06 ≡ false → eqb c 0x07 ≡ false
      → Enters (replying s d status results)
  tells c status results e w z = other_no_entry p k a f to status results s d (rw e w) (rw e z) kept

  set_address_enters : (args : List ℕ) → command_of p.bus f ≡ 0x01 → Enters (set_address p s args d)
  set_address_enters args e =
      set_address_cases p s args d Enters
      (record {
        foreign = λ other. no_reply_no_entry p k a f to s d form kept;
        refused = λ own r. tells 0x01 invalid_arguments [] e refl refl;
        taken = λ own r. other_no_entry p k a f to ok [] _ d (rw e) (rw e) (keeps_other p s d k _ _ kept);
      })

  serial_enters : command_of p.bus f ≡ 0x04 → Enters (serial_number p s d)
  serial_enters e =
      by_test (eqb (length p.serial) 0)
      (λ none. rw none (tells 0x04 command_not_supported [] e refl refl))
      (λ some. rw some (tells 0x04 ok p.serial e refl refl))

  started_enters : Enters (started s d)
  started_enters =
      no_reply_no_entry p k a f to (started s d).state d form
      (record {
        balanced = kept.balanced;
        flash_is = kept.flash_is;
        count_is = kept.count_is;
        next_is = kept.next_is;
        waiting_is = λ off. absurd (false≢true (sym off));
      })

  shown_enters : (args : List ℕ) → command_of p.bus f ≡ 0x08 → Enters (shown p s args d)
  unfolding shown
  shown_enters args e =
      by_test (readable p (number_at args 0) (get_or args 2 0))
      (λ may. rw may (tells 0x08 ok _ e refl refl))
      (λ may-not. rw may-not (tells 0x08 invalid_arguments [] e refl refl))

  pub executed_enters : Enters (executed p s (command_of p.bus f) (arguments_of p.bus f) d)
  executed_enters =
      executed_cases p s (command_of p.bus f) (arguments_of p.bus f) d Enters
      (record {
        unserved = error_no_entry p k a f to command_not_supported [] s d refl kept;
        wrong_length = error_no_entry p k a f to invalid_arguments [] s d refl kept;
        version = λ e long. tells 0x00 ok (2 ∷ 2 ∷ []) e refl refl;
        address = λ e long. set_address_enters (arguments_of p.bus f) e;
        info = λ e long. tells 0x03 ok (hardware_info p) e refl refl;
        serial = λ e long. serial_enters e;
        start = λ e long. started_enters;
        write = λ e long. written_enters p s d k a f to h e (write_long (length (arguments_of p.bus f)) long);
        finalize = λ e long. finished_enters p s d k a f to h e;
        read = λ e long. shown_enters (arguments_of p.bus f) e;
        revision = λ e long. tells 0x09 ok (p.actual ∷ []) e refl refl;
        longest = λ e long. tells 0x0c ok (two_bytes p.longest) e refl refl;
      })
