-- What set address does to a board, and where its OK is read. The frame's verdict is a command, so the answer is the command's own; an
-- answer with OK comes from no other outcome than the one that takes the address.
use mathlib.Core.Path.{◌≡◌, refl, sym, ap, subst, ◌∙◌}
use mathlib.Core.Bool.{true, false, ◌&&◌}
use mathlib.Core.List.{List, [], ◌∷◌}
use Prim.Native.Nat.{ℕ, ◌≤◌}
use native.Mathlib.Omega.{arith}
use lib.Dec.{eqb}
use lib.ListN.{length, get_or}
use borrow.Author.Tests.{eqb-true, eqb-false}
use Rattle.rules.specs.declared.kinds.Bus.{Bus}
use Rattle.rules.specs.declared.kinds.Bus.TheVariants.{I2c, Rs485}
use Rattle.rules.specs.declared.kinds.Address.TheVariants.{Own}
use Rattle.rules.specs.declared.kinds.Verdict.{Verdict}
use Rattle.rules.specs.declared.kinds.Verdict.TheVariants.{Reset, ResetAddress, Ignored, BadTransfer, BadSum, Command}
use Rattle.rules.specs.Profile.{Profile}
use Rattle.rules.specs.State.{State, with_address}
use Rattle.rules.specs.CheckSums.{sealed}
use Rattle.rules.specs.Numbers.{refusal}
use Rattle.rules.specs.Frames.{destination, reply, command_of, arguments_of, framing, verdict}
use Rattle.rules.specs.Responses.{NoReply, Acted, replying, ok, command_not_supported}
use Rattle.rules.specs.Responses.{invalid_arguments, invalid_transfer, invalid_crc}
use Rattle.rules.specs.Commands.{reserved, set_address, executed}
use Rattle.rules.specs.Board.{Called, finished_call, handled, refused, received}
use Rattle.laws.proofs.TestLaws.{by_test, &&_true}
use Rattle.laws.proofs.StateLaws.{refusal_unrefused, unrefused_refusal}
use Rattle.laws.proofs.CommandLaws.{length-reply, set_address_cases, executed_cases}
use Rattle.laws.proofs.VerdictLaws.{verdict_cases}
use Rattle.laws.proofs.AddressLaws.{taken-addressed}
use Rattle.laws.proofs.BoardLaws.{with_reply_address, with_reply_running, with_reply_last, received-handled, received-refused}
use Rattle.laws.proofs.BoardLaws.{refusal_least}
use Rattle.laws.proofs.BoardLaws.{ignored_unanswered, received_formed_call, read_again}
use Rattle.ledger.specs.Ledger.{answered_ok}
use Rattle.demands.specs.Acceptance.{new_address}
use Rattle.demands.proofs.Answered.{handled_command, address_set}
use Rattle.address_claims.specs.Addresses.{address_answer, SetAddressAnswered, NewAddressRead}

pub set_address_answered : SetAddressAnswered
set_address_answered p s a f d n address hardware none heard is are =
    let to : ℕ = destination p.bus a f in
    let told : received p s a f d n ≡ finished_call p.bus to (set_address p s (address ∷ hardware ∷ []) d) =
    received-handled p s d a f n none ∙ handled_command p s a f heard d
    ∙ rw (is, are) (ap (finished_call p.bus to) (address_set p s (address ∷ hardware ∷ []) d refl)) in
    told
    ∙ set_address_cases p s (address ∷ hardware ∷ []) d
    (λ (act : Acted). finished_call p.bus to act ≡ address_answer p s to d address hardware)
    (record { foreign = λ e. rw e; refused = λ e r. rw (e, r); taken = λ e r. rw (e, r) })

-- the first byte of a reply on I²C
first_status : (bus : Bus) (a status : ℕ) (results : List ℕ) → bus ≡ I2c → get_or (reply bus a status results) 0 1 ≡ status
unfolding reply sealed
first_status I2c a status results i = refl
first_status Rs485 a status results i = cc

-- a call that took a new address and said OK
pub record Took (f : List ℕ) (c : Called) : Type 0 where
  pub number_is : c.number ≡ 0
  pub address_is : c.state.address ≡ Own (new_address I2c f)
  pub unreserved : reserved I2c (new_address I2c f) ≡ false
  pub stopped : c.state.running ≡ false
  pub last_is : c.state.last ≡ c.reply
  pub reply_some : length c.reply ≡ 0 → ⊥

module _ (p : Profile) (s : State) (a : ℕ) (f d : List ℕ) (i : p.bus ≡ I2c) where
  abbrev to : ℕ
  to = destination p.bus a f

  abbrev Ends : Called → Type 0
  Ends c = answered_ok I2c 0x01 f c.number c.reply ≡ true → Took f c

  -- nothing to send, or a refusal
  silent : (c : Called) → 1 ≤ c.number → Ends c
  silent c least said =
      let answered = (&&_true (eqb c.number 0) (eqb (get_or c.reply 0 1) 0)
      (&&_true (eqb (get_or f 0 0) 0x01) (eqb c.number 0 && eqb (get_or c.reply 0 1) 0) said).1).0 in
      absurd (omega (arith, eqb-true c.number 0 answered))

  -- another status than OK
  other_status : (status : ℕ) → 1 ≤ status → Ends (finished_call p.bus to (replying s d status []))
  other_status status some said =
      let r : List ℕ = reply p.bus to status [] in
      let first = (&&_true (eqb (get_or f 0 0) 0x01) (eqb (get_or r 0 1) 0) said).1 in
      absurd (omega (arith, eqb-true (get_or r 0 1) 0 first, first_status p.bus to status [] i))

  took : s.running ≡ false → reserved p.bus (new_address p.bus f) ≡ false
      → Ends (finished_call p.bus to (replying (with_address s (Own (new_address p.bus f))) d ok []))
  took stopped free said =
      let moved : State = with_address s (Own (new_address p.bus f)) in
      let r : List ℕ = reply p.bus to ok [] in
      record {
        number_is = refl;
        address_is = with_reply_address p.bus moved r ∙ rw i;
        unreserved = rw i at free;
        stopped = with_reply_running p.bus moved r ∙ stopped;
        last_is = with_reply_last p.bus moved r i;
        reply_some = λ e. omega (arith, length-reply p.bus to ok [], rw i at e);
      }

  set_address_ends : s.running ≡ false → Ends (finished_call p.bus to (executed p s 0x01 (arguments_of p.bus f) d))
  set_address_ends stopped =
      executed_cases p s 0x01 (arguments_of p.bus f) d (λ (act : Acted). Ends (finished_call p.bus to act))
      (record {
        unserved = other_status command_not_supported (omega arith);
        wrong_length = other_status invalid_arguments (omega arith);
        version = λ is h. absurd (omega arith);
        address = λ is h.
            set_address_cases p s (arguments_of p.bus f) d (λ (act : Acted). Ends (finished_call p.bus to act))
            (record {
              foreign = λ e. silent (finished_call p.bus to (record { response = NoReply; state = s; flash = d })) (omega arith);
              refused = λ e r. other_status invalid_arguments (omega arith);
              taken = λ e r. took stopped r;
            });
        info = λ is h. absurd (omega arith);
        serial = λ is h. absurd (omega arith);
        start = λ is h. absurd (omega arith);
        write = λ is h. absurd (omega arith);
        finalize = λ is h. absurd (omega arith);
        read = λ is h. absurd (omega arith);
        revision = λ is h. absurd (omega arith);
        longest = λ is h. absurd (omega arith);
      })

  executed-ends : s.running ≡ false
      → Ends (finished_call p.bus to (executed p s (command_of p.bus f) (arguments_of p.bus f) d))
  executed-ends stopped said =
      let asked : command_of p.bus f ≡ 0x01 = rw i (eqb-true (get_or f 0 0) 0x01 (&&_true (eqb (get_or f 0 0) 0x01) _ said).0) in
      rw asked (set_address_ends stopped (rw asked at said))

  framed_ends : s.running ≡ false → (v : Verdict) → Ends (handled p s a f d v)
  unfolding handled
  framed_ends stopped Reset = silent _ (omega arith)
  framed_ends stopped ResetAddress = silent _ (omega arith)
  framed_ends stopped (Ignored reason) = silent _ (ignored_unanswered reason)
  framed_ends stopped BadTransfer = other_status invalid_transfer (omega arith)
  framed_ends stopped BadSum = other_status invalid_crc (omega arith)
  framed_ends stopped Command = executed-ends stopped

  handled-ends : Ends (handled p s a f d (verdict p.bus p.longest s.running s.address a f))
  unfolding handled
  handled-ends =
      verdict_cases p.bus p.longest s.running s.address a f (λ (v : Verdict). Ends (handled p s a f d v))
      (record {
        reset = λ g. silent _ (omega arith);
        run = λ g running. silent _ (omega arith);
        reset_address = λ g stopped r. silent _ (omega arith);
        framed = λ g stopped r. framed_ends stopped (framing p.bus p.longest s.address a f);
      })

pub new_address_read : NewAddressRead
new_address_read p s a f d n i said =
    by_test (eqb (refusal p s (length d) n) 0)
    (λ e.
    let none = eqb-true (refusal p s (length d) n) 0 e in
    let c : Called = received p s a f d n in
    let told = received-handled p s d a f n none in
    let took = subst (λ (h : Called). Took f h) (sym told) (handled-ends p s a f d i (rw told at said)) in
    let unrefused = refusal_unrefused p s (length d) n none in
    let formed = received_formed_call p s d a f n unrefused.well_formed_holds in
    read_again p c (new_address I2c f) n i
    (unrefused_refusal p c.state (length c.flash) n unrefused.in_range_holds formed.well_formed_holds
    (omega (arith, unrefused.flash_holds, formed.outside.length_kept)) unrefused.buffer_holds)
    took.stopped
    (rw took.address_is (taken-addressed I2c (get_or (arguments_of I2c f) 0 0) took.unreserved))
    took.last_is took.reply_some took.number_is)
    (λ e.
    let least = refusal_least p s (length d) n e in
    let told = received-refused p s d a f n (eqb-false (refusal p s (length d) n) 0 e) in
    absurd (omega (arith, (silent p s a f d i (refused (refusal p s (length d) n) s d) (omega arith) (rw told at said)).number_is)))
