-- A version reply of a bootloader says 2.2. Every other reply to a version request has another status than OK.
use mathlib.Core.Path.{◌≡◌, refl, sym, ap, subst, ◌∙◌}
use mathlib.Core.Bool.{true, false, false≢true}
use mathlib.Core.List.{List, [], ◌∷◌, append-nil}
use Prim.Native.Nat.{ℕ, ◌+◌, ◌≤◌}
use native.Mathlib.Omega.{arith}
use lib.Dec.{eqb}
use lib.ListN.{length, get_or}
use borrow.Author.Tests.{eqb-false}
use Rattle.rules.specs.declared.kinds.Bus.{Bus}
use Rattle.rules.specs.declared.kinds.Bus.TheVariants.{I2c, Rs485}
use Rattle.rules.specs.declared.kinds.Verdict.{Verdict}
use Rattle.rules.specs.declared.kinds.Verdict.TheVariants.{Reset, ResetAddress, Ignored, BadTransfer, BadSum, Command}
use Rattle.rules.specs.Profile.{Profile}
use Rattle.rules.specs.State.{State}
use Rattle.rules.specs.Numbers.{refusal}
use Rattle.rules.specs.Frames.{header_length, reply, destination, command_of, arguments_of}
use Rattle.rules.specs.Responses.{Response, Reply, NoReply, ok}
use Rattle.rules.specs.Commands.{tabled, executed}
use Rattle.rules.specs.Board.{replied, finished_call, read_answered, handled, received, read_out}
use Rattle.rules.specs.Master.{Decoding, opened, decoded, results_in, results_missing, fixed_part, version_rule}
use Rattle.laws.proofs.TestLaws.{by_test}
use Rattle.laws.proofs.FrameLaws.{Ends, decoded-reply, results-reply}
use Rattle.laws.proofs.CommandLaws.{executed_cases}
use Rattle.laws.proofs.BoardLaws.{ignored_unanswered, with_reply_last}
use Rattle.ledger.specs.Calls.{ruled}
use Rattle.reset_claims.specs.Running.{SaysKnown, BootloaderKnown}

-- no reply decodes to nothing
none_said : (bus : Bus) (to : ℕ) → SaysKnown bus to []
unfolding tabled decoded
none_said I2c to major minor more e = absurd (omega (arith, e))
none_said Rs485 to major minor more e = absurd (omega (arith, e))

ends : (bus : Bus) → Ends bus []
ends I2c = tt
ends Rs485 = refl

module _ (bus : Bus) (to status : ℕ) (results : List ℕ) (known : status ≤ 5)
    (enough : results_missing 0x00 0 status (length results) ≡ false) where
  -- what the master reads of a reply
  decoded_is : decoded bus 0x00 to 0 (reply bus to status results)
      ≡ record { number = 0; status = status; start = header_length bus + 2; len = length results }
  unfolding tabled
  decoded_is =
      rw append-nil at (decoded-reply to status results [] bus 0x00 0 refl (ends bus) known enough)

  results_are : results_in (decoded bus 0x00 to 0 (reply bus to status results)) (reply bus to status results) ≡ results
  results_are = rw decoded_is (rw append-nil at (results-reply to status results [] bus))

  -- OK with the results 2, 2, or another status
  says_known : (status ≡ ok → results ≡ 2 ∷ 2 ∷ []) → SaysKnown bus to (reply bus to status results)
  unfolding version_rule
  says_known is major minor more e status_ok said =
      let ok-is : status ≡ ok = sym (ap (λ (d : Decoding). d.status) decoded_is) ∙ status_ok in
      let two : major ∷ minor ∷ more ≡ 2 ∷ 2 ∷ [] = sym said ∙ results_are ∙ is ok-is in
      let major_is : major ≡ 2 = ap (λ (l : List ℕ). get_or l 0 0) two in
      rw major_is

-- any command with the version's code
module _ (p : Profile) (s : State) (code : ℕ) (args d : List ℕ) (to : ℕ) (code_is : code ≡ 0x00) where
  executed_known : SaysKnown p.bus to (finished_call p.bus to (executed p s code args d)).reply
  unfolding fixed_part
  executed_known =
      executed_cases p s code args d (λ a. SaysKnown p.bus to (finished_call p.bus to a).reply)
      (record {
        unserved = says_known p.bus to 2 [] (omega arith) refl (λ e. absurd (omega (arith, e)));
        wrong_length = says_known p.bus to 5 [] (omega arith) refl (λ e. absurd (omega (arith, e)));
        version = λ e long. says_known p.bus to 0 (2 ∷ 2 ∷ []) (omega arith) refl (λ e. refl);
        address = λ e long. absurd (omega (arith, e, code_is));
        info = λ e long. absurd (omega (arith, e, code_is));
        serial = λ e long. absurd (omega (arith, e, code_is));
        start = λ e long. absurd (omega (arith, e, code_is));
        write = λ e long. absurd (omega (arith, e, code_is));
        finalize = λ e long. absurd (omega (arith, e, code_is));
        read = λ e long. absurd (omega (arith, e, code_is));
        revision = λ e long. absurd (omega (arith, e, code_is));
        longest = λ e long. absurd (omega (arith, e, code_is));
      })

-- a reply on I²C is kept as the last reply
replied_last : (bus : Bus) (to : ℕ) (r : Response) (s : State) (d : List ℕ) → bus ≡ I2c → (replied bus to r s d).number ≡ 0
    → (replied bus to r s d).state.last ≡ (replied bus to r s d).reply
replied_last bus to (Reply status results) s d i e = with_reply_last bus s (reply bus to status results) i
replied_last bus to NoReply s d i e = absurd (omega (arith, e))

module _ (p : Profile) (s : State) (a : ℕ) (f d : List ℕ) where
  handled_known : (v : Verdict) → command_of p.bus f ≡ 0x00 → SaysKnown p.bus (destination p.bus a f) (handled p s a f d v).reply
  unfolding handled
  handled_known Reset code_is = none_said p.bus _
  handled_known ResetAddress code_is = none_said p.bus _
  handled_known (Ignored reason) code_is = none_said p.bus _
  handled_known BadTransfer code_is = says_known p.bus _ 3 [] (omega arith) refl (λ e. absurd (omega (arith, e)))
  handled_known BadSum code_is = says_known p.bus _ 4 [] (omega arith) refl (λ e. absurd (omega (arith, e)))
  handled_known Command code_is = executed_known p s (command_of p.bus f) (arguments_of p.bus f) d _ code_is

  handled_last : (v : Verdict) → p.bus ≡ I2c → (handled p s a f d v).number ≡ 0
      → (handled p s a f d v).state.last ≡ (handled p s a f d v).reply
  unfolding handled
  handled_last Reset i e = absurd (omega (arith, e))
  handled_last ResetAddress i e = absurd (omega (arith, e))
  handled_last (Ignored reason) i e = absurd (omega (arith, e, ignored_unanswered reason))
  handled_last BadTransfer i e = replied_last p.bus _ (Reply 3 []) s d i e
  handled_last BadSum i e = replied_last p.bus _ (Reply 4 []) s d i e
  handled_last Command i e =
      let act = executed p s (command_of p.bus f) (arguments_of p.bus f) d in
      replied_last p.bus _ act.response act.state act.flash i e

module _ (p : Profile) (s : State) (d : List ℕ) (a : ℕ) (f : List ℕ) (n : ℕ) where
  received_known : command_of p.bus f ≡ 0x00 → SaysKnown p.bus (destination p.bus a f) (received p s a f d n).reply
  unfolding received
  received_known code_is =
      by_test (eqb (refusal p s (length d) n) 0)
      (λ e. rw e (handled_known p s a f d _ code_is))
      (λ e. rw e (none_said p.bus _))

  received_last : p.bus ≡ I2c → (received p s a f d n).number ≡ 0 → (received p s a f d n).state.last ≡ (received p s a f d n).reply
  unfolding received
  received_last i z =
      by_test (eqb (refusal p s (length d) n) 0)
      (λ e. rw e (handled_last p s a f d _ i (rw e at z)))
      (λ e. let refused : refusal p s (length d) n ≡ 0 = rw e at z in absurd (eqb-false _ _ e refused))

-- only I²C is read, and there the decoder looks at no address
answered_i2c : (bus : Bus) (s : State) (a : ℕ) → read_answered bus s a ≡ true → bus ≡ I2c
answered_i2c I2c s a e = refl
answered_i2c Rs485 s a e = absurd (false≢true e)

known_anywhere : (bus : Bus) (a b : ℕ) (r : List ℕ) → bus ≡ I2c → SaysKnown bus a r → SaysKnown bus b r
unfolding decoded opened
known_anywhere bus a b r i = subst (λ (k : Bus). SaysKnown k a r → SaysKnown k b r) (sym i) (λ known. known)

-- a read gives the last reply, or nothing
read_known : (p : Profile) (s : State) (d : List ℕ) (b m : ℕ) → (p.bus ≡ I2c → SaysKnown p.bus b s.last)
    → SaysKnown p.bus b (read_out p s b d m).reply
unfolding read_out
read_known p s d b m last =
    by_test (eqb (refusal p s (length d) m) 0)
    (λ e.
    by_test (read_answered p.bus s b)
    (λ g. rw (e, g) (last (answered_i2c p.bus s b g)))
    (λ g. rw (e, g) (none_said p.bus b)))
    (λ e. rw e (none_said p.bus b))

pub bootloader_known : BootloaderKnown ruled
bootloader_known = record {
  replied = λ p s d a f n code_is. received_known p s d a f n code_is;
  read =
      λ p s d a f n b m code_is answered.
      read_known p (received p s a f d n).state (received p s a f d n).flash b m
      (λ i.
      rw (received_last p s d a f n i answered)
      (known_anywhere p.bus (destination p.bus a f) b _ i (received_known p s d a f n code_is)));
}
