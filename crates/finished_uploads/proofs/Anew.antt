-- A write at zero begins anew: where it is accepted, the upload before it makes no difference. And a frame that is answered 0 was refused
-- by none of 2 to 5.
use mathlib.Core.Path.{◌≡◌, refl, sym, ◌∙◌}
use mathlib.Core.Bool.{true, false, ◌&&◌, false≢true}
use mathlib.Core.List.{List, []}
use Prim.Native.Nat.{ℕ, ◌+◌, ◌≤◌}
use native.Mathlib.Omega.{arith}
use lib.Dec.{eqb, leb}
use lib.ListN.{length, drop, get_or}
use borrow.Author.Tests.{eqb-true}
use Rattle.rules.specs.declared.kinds.Bus.{Bus}
use Rattle.rules.specs.declared.kinds.Bus.TheVariants.{I2c, Rs485}
use Rattle.rules.specs.declared.kinds.Verdict.{Verdict}
use Rattle.rules.specs.declared.kinds.Verdict.TheVariants.{Reset, ResetAddress, Ignored, BadTransfer, BadSum, Command}
use Rattle.rules.specs.Profile.{Profile}
use Rattle.rules.specs.State.{State, fresh_upload, with_upload, well_formed}
use Rattle.rules.specs.Numbers.{ignored_number, refusal}
use Rattle.rules.specs.Frames.{reply, destination, number_at, command_of, arguments_of}
use Rattle.rules.specs.Responses.{invalid_transfer, invalid_crc, invalid_arguments}
use Rattle.rules.specs.Commands.{tabled, length_allowed, written, performed, executed}
use Rattle.rules.specs.Board.{Called, finished_call, handled, received}
use Rattle.laws.proofs.BoardLaws.{ignored_unanswered, received-handled, refusal_least}
use Rattle.laws.proofs.ImageLaws.{begins_formed}
use Rattle.laws.proofs.StateLaws.{facts_well_formed, refusal_unrefused, unrefused_refusal, unrefused_state}
use Rattle.laws.proofs.TestLaws.{by_test, &&_true}
use Rattle.ledger.specs.Ledger.{answered_ok, is_write, offsets, write_address}
use Rattle.ledger.proofs.FrameReading.{answered_reply, write_address_lem}
use Rattle.ledger.proofs.CommandStep.{write_long}

-- the state with no upload begun
abbrev pub anew : State → State
anew s = with_upload s fresh_upload

-- an answer OK has number 0
pub answered_zero : (bus : Bus) (code : ℕ) (f : List ℕ) (n : ℕ) (r : List ℕ) → answered_ok bus code f n r ≡ true → n ≡ 0
answered_zero bus code f n r e = eqb-true n 0 (&&_true (eqb n 0) _ (&&_true (eqb (get_or f (offsets bus).command 0) code) _ e).1).0

-- and number 0 is no refusal
pub answered_unrefused : (p : Profile) (s : State) (d : List ℕ) (a : ℕ) (f : List ℕ) (n : ℕ) → (received p s a f d n).number ≡ 0
    → refusal p s (length d) n ≡ 0
unfolding received
answered_unrefused p s d a f n e =
    by_test (eqb (refusal p s (length d) n) 0) (λ none. eqb-true _ _ none)
    (λ some. let number : refusal p s (length d) n ≡ 0 = rw some at e in
    absurd (omega (arith, refusal_least p s (length d) n some)))

-- it is an answer to this command
answered_command : (bus : Bus) (code : ℕ) (f : List ℕ) (n : ℕ) (r : List ℕ) → answered_ok bus code f n r ≡ true → command_of bus f ≡ code
answered_command I2c code f n r e = eqb-true _ _ (&&_true (eqb (get_or f 0 0) code) _ e).0
answered_command Rs485 code f n r e = eqb-true _ _ (&&_true (eqb (get_or f 1 0) code) _ e).0

-- a reply with another status is none
not-ok : (bus : Bus) (f : List ℕ) (address status : ℕ) (results : List ℕ) → eqb status 0 ≡ false
    → is_write bus f 0 (reply bus address status results) ≡ true → ⊥
not-ok bus f address status results bad e =
    let both : (eqb (command_of bus f) 0x06 && eqb status 0) ≡ true = sym (answered_reply bus 0x06 f address status results) ∙ e in
    false≢true (sym bad ∙ (&&_true (eqb (command_of bus f) 0x06) (eqb status 0) both).1)

module _ (p : Profile) (s : State) (a : ℕ) (f d : List ℕ) (at_zero : write_address p.bus f ≡ 0) where
  abbrev args : List ℕ
  args = arguments_of p.bus f

  abbrev to : ℕ
  to = destination p.bus a f

  -- what a call is, given that it is an accepted write
  abbrev Anew : Called → Called → Type 0
  Anew c c' = is_write p.bus f c.number c.reply ≡ true → c ≡ c'

  written-anew : 2 ≤ length args
      → Anew (finished_call p.bus to (written p s args d)) (finished_call p.bus to (written p (anew s) args d))
  unfolding written
  written-anew long =
      let zero : number_at args 0 ≡ 0 = write_address_lem p.bus f long ∙ at_zero in
      rw zero (by_test (leb (0 + length (drop 2 args)) p.size) (λ fits. rw fits (λ e. refl))
      (λ past. rw past (λ e. absurd (not-ok p.bus f to invalid_arguments [] refl e))))

  executed-anew : command_of p.bus f ≡ 0x06
      → Anew (finished_call p.bus to (executed p s 0x06 args d)) (finished_call p.bus to (executed p (anew s) 0x06 args d))
  unfolding executed performed tabled
  executed-anew code =
      by_test (length_allowed 0x06 (length args)) (λ long. rw long (written-anew (write_long (length args) long)))
      (λ short. rw short (λ e. absurd (not-ok p.bus f to invalid_arguments [] refl e)))

  handled-anew : (v : Verdict) → Anew (handled p s a f d v) (handled p (anew s) a f d v)
  unfolding handled
  handled-anew Reset e = absurd (omega (arith, answered_zero p.bus 0x06 f 1 [] e))
  handled-anew ResetAddress e = absurd (omega (arith, answered_zero p.bus 0x06 f 1 [] e))
  handled-anew (Ignored reason) e =
      absurd (omega (arith, answered_zero p.bus 0x06 f (ignored_number reason) [] e, ignored_unanswered reason))
  handled-anew BadTransfer e = absurd (not-ok p.bus f to invalid_transfer [] refl e)
  handled-anew BadSum e = absurd (not-ok p.bus f to invalid_crc [] refl e)
  handled-anew Command e =
      let c : Called = finished_call p.bus to (executed p s (command_of p.bus f) args d) in
      let code = answered_command p.bus 0x06 f c.number c.reply e in
      rw code (executed-anew code (rw code at e))

  -- an accepted write at zero
  pub received-anew : (n : ℕ) → Anew (received p s a f d n) (received p (anew s) a f d n)
  received-anew n e =
      let c : Called = received p s a f d n in
      let none = answered_unrefused p s d a f n (answered_zero p.bus 0x06 f c.number c.reply e) in
      let un = refusal_unrefused p s (length d) n none in
      let formed : well_formed p (anew s) ≡ true =
      facts_well_formed p (anew s) (record { upload = begins_formed p; reply = (unrefused_state un).reply }) in
      let none' = unrefused_refusal p (anew s) (length d) n un.in_range_holds formed un.flash_holds un.buffer_holds in
      let handles = received-handled p s d a f n none in
      handles ∙ handled-anew _ (rw handles at e) ∙ sym (received-handled p (anew s) d a f n none')
