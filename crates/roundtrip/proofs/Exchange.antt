-- One request and its answer, as a list of exchanges has them: a command that answers OK and keeps the address is answered OK with its
-- results, and leaves the board ready for the next. By the statements on requests and replies; on I²C the answer is read at the same
-- address.
use mathlib.Core.Path.{◌≡◌, refl, sym, subst, ◌∙◌}
use mathlib.Core.Bool.{true}
use mathlib.Core.List.{List, [], ◌∷◌}
use Prim.Native.Nat.{ℕ}
use native.Mathlib.Omega.{arith}
use lib.ListN.{length, drop, get_or}
use Rattle.rules.specs.declared.kinds.Bus.{Bus}
use Rattle.rules.specs.declared.kinds.Bus.TheVariants.{I2c, Rs485}
use Rattle.rules.specs.State.{Upload, with_upload}
use Rattle.rules.specs.Frames.{addressed, reply}
use Rattle.rules.specs.Responses.{Reply, Acted, ok}
use Rattle.rules.specs.Commands.{performed}
use Rattle.rules.specs.Board.{with_reply}
use Rattle.rules.specs.Numbers.{Unrefused}
use Rattle.laws.proofs.StateLaws.{refusal_unrefused, unrefused_refusal}
use Rattle.laws.proofs.BoardLaws.{FormedCall, received_formed_call, with_reply-upload, with_reply_running, with_reply_address}
use Rattle.rules.specs.Master.{Instruction, Commands}
use Rattle.roundtrip.specs.Sending.{Sending, Given, Beside, AddressedBy, target, bus, encoding, frame, call}
use Rattle.roundtrip.specs.Sending.{instruction}
use Rattle.roundtrip.specs.Understood.{TakenAs, Understood}
use Rattle.roundtrip.specs.ReadBack.{Answered, ResponseRead, Replied}
use Rattle.roundtrip.specs.Exchanges.{Line, Board, Ready, Message, sending, fetched, answer, after, results, Ok}
use Rattle.roundtrip.proofs.Requests.{given_understood}
use Rattle.roundtrip.proofs.Replies.{replies_read}

pub beside_self : (b : Bus) (a : ℕ) → Beside b a a
beside_self I2c a = refl
beside_self Rs485 a = tt

-- a request was answered OK with these results, and the board, ready for the next, has this upload and this flash
pub record Exchanged (l : Line) (x : Sending) (u : Upload) (d said : List ℕ) : Type 0 where
  pub answered_ok_holds : Ok x
  pub results_are : results x ≡ said
  pub upload_is : (after x).state.upload ≡ u
  pub flash_is : (after x).flash ≡ d
  pub ready : Ready l (after x)

module _ (l : Line) (b : Board) (ready : Ready l b) (m : Message) where
  abbrev x : Sending
  x = sending l b m

  unrefused : Unrefused l.profile b.state (length b.flash) l.buffer
  unrefused = refusal_unrefused l.profile b.state (length b.flash) l.buffer ready.none_refused

  orderly : FormedCall l.profile b.flash (call x)
  orderly = received_formed_call l.profile b.state b.flash l.to (frame x) l.buffer unrefused.well_formed_holds

  module _ (code : ℕ) (arguments said : List ℕ) (u : Upload) (d : List ℕ) (made : (encoding x).number ≡ 0)
      (taken : TakenAs x code arguments)
      (replying : ResponseRead x code arguments (get_or arguments 2 0)
      (performed l.profile b.state code arguments b.flash).response)
      (acts : performed l.profile b.state code arguments b.flash
      ≡ record { response = Reply ok said; state = with_upload b.state u; flash = d }) where
    answered : Answered x code arguments (get_or arguments 2 0) ok said
    answered = subst (λ (a : Acted). ResponseRead x code arguments (get_or arguments 2 0) a.response) acts replying

    abbrev sent : List ℕ
    sent = reply (bus x) l.to ok said

    called : call x ≡ record { number = 0; reply = sent; state = with_reply (bus x) (with_upload b.state u) sent; flash = d }
    called = taken.call_is ∙ rw acts

    addressed_next_lem : addressed (bus x) (call x).state.address l.to ≡ true
    addressed_next_lem = rw (called, with_reply_address (bus x) (with_upload b.state u) sent) ready.heard

    fetched-call : (k : Bus) → bus x ≡ k → fetched k x ≡ call x
    fetched-call I2c i =
        (answered.read_out_holds i).read l.to l.buffer
        (subst (λ (k : Bus). addressed k (call x).state.address l.to ≡ true) i addressed_next_lem) unrefused.buffer_holds
    fetched-call Rs485 i = refl

    answer-call : answer x ≡ call x
    answer-call = fetched-call (bus x) refl

    left_ready : Ready l (after x)
    left_ready = record {
      none_refused =
          rw answer-call
          (unrefused_refusal l.profile (call x).state (length (call x).flash) l.buffer unrefused.in_range_holds orderly.well_formed_holds
          (omega (arith, unrefused.flash_holds, orderly.outside.length_kept)) unrefused.buffer_holds);
      stopped = rw (answer-call, called, with_reply_running (bus x) (with_upload b.state u) sent) ready.stopped;
      heard = rw answer-call addressed_next_lem;
      byte = ready.byte;
    }

    exchanged : Exchanged l x u d said
    exchanged = record {
      answered_ok_holds =
          record {
            made = made;
            decodes = rw (answer-call, taken.command_is, taken.arguments_are, answered.reads.decoding_is);
            status_ok =
                rw (answer-call, taken.command_is, taken.arguments_are, answered.reads.decoding_is);
          };
      results_are = rw (answer-call, taken.command_is, taken.arguments_are) answered.reads.results_are;
      upload_is = rw (answer-call, called) (with_reply-upload (bus x) (with_upload b.state u) sent);
      flash_is = rw (answer-call, called);
      ready = left_ready;
    }

  given : (encoding x).number ≡ 0 → (code : ℕ) (arguments : List ℕ) → instruction x ≡ Commands code arguments → Given x
  given made code arguments is = record {
    made = made;
    sent = subst (λ (a : Instruction). Beside (bus x) l.to (target l.to a)) (sym is) (beside_self (bus x) l.to);
    none_refused = ready.none_refused;
    heard = subst (λ (a : Instruction). AddressedBy l.profile b.state l.to a) (sym is) (ready.stopped, ready.heard);
  }

  -- a command that answers OK, and keeps address and running
  pub exchange : (code : ℕ) (arguments said : List ℕ) (u : Upload) (d : List ℕ) → (encoding x).number ≡ 0
      → instruction x ≡ Commands code arguments
      → (code ≡ 0x08 → drop 2 arguments ≡ get_or arguments 2 0 ∷ [])
      → performed l.profile b.state code arguments b.flash
      ≡ record { response = Reply ok said; state = with_upload b.state u; flash = d }
      → Exchanged l x u d said
  exchange code arguments said u d made is read_length acts =
      let all : Given x = given made code arguments is in
      exchanged code arguments said u d made (subst (Understood x) is (given_understood x all))
      (subst (Replied x) is (replies_read x all) (get_or arguments 2 0) read_length) acts
