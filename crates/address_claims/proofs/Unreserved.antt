-- No call brings a board to a reserved address: only a set address that is taken gives an address of its own, and it has made the test.
use mathlib.Core.Path.{◌≡◌, refl}
use mathlib.Core.Bool.{true}
use mathlib.Core.List.{List, [], ◌∷◌}
use Prim.Native.Nat.{ℕ}
use lib.Dec.{eqb}
use lib.ListN.{length, drop, get_or}
use borrow.Author.Tests.{eqb-true, eqb-false}
use Rattle.rules.specs.declared.kinds.Bus.{Bus}
use Rattle.rules.specs.declared.kinds.Verdict.{Verdict}
use Rattle.rules.specs.declared.kinds.Verdict.TheVariants.{Reset, ResetAddress, Ignored, BadTransfer, BadSum, Command}
use Rattle.rules.specs.Profile.{Profile}
use Rattle.rules.specs.State.{State, fresh}
use Rattle.rules.specs.Numbers.{refusal}
use Rattle.rules.specs.Frames.{destination, reply, command_of, arguments_of, number_at, verdict}
use Rattle.rules.specs.Responses.{Response, Reply, NoReply, Acted, replying, invalid_transfer, invalid_crc}
use Rattle.rules.specs.Commands.{accepted, readable, written, finished, shown, executed}
use Rattle.rules.specs.Board.{replied, finished_call, handled}
use Rattle.laws.proofs.TestLaws.{by_test}
use Rattle.laws.proofs.CommandLaws.{set_address_cases, executed_cases}
use Rattle.laws.proofs.AddressLaws.{taken_fits}
use Rattle.laws.proofs.BoardLaws.{with_reply_address, received-handled, received-refused, read_out_state}
use Rattle.ledger.specs.Calls.{Call, Frame, Read, ruled, calls}
use Rattle.address_claims.specs.Addresses.{unreserved, kept_after, NeverReserved}

-- an answer leaves the address that the command left
pub finished_call_address : (bus : Bus) (a : ℕ) (act : Acted) → (finished_call bus a act).state.address ≡ act.state.address
finished_call_address bus a act = go act.response
  where
    go : (r : Response) → (replied bus a r act.state act.flash).state.address ≡ act.state.address
    go (Reply status results) = with_reply_address bus act.state (reply bus a status results)
    go NoReply = with_reply_address bus act.state []

module _ (p : Profile) (s : State) (kept : unreserved p.bus s.address ≡ true) where
  abbrev Leaves : Acted → Type 0
  Leaves act = unreserved p.bus act.state.address ≡ true

  written_leaves : (args d : List ℕ) → Leaves (written p s args d)
  unfolding written
  written_leaves args d =
      by_test (accepted p.size s.upload.next (number_at args 0) (length (drop 2 args))) (λ e. rw e kept) (λ e. rw e kept)

  shown_leaves : (args d : List ℕ) → Leaves (shown p s args d)
  unfolding shown
  shown_leaves args d = by_test (readable p (number_at args 0) (get_or args 2 0)) (λ e. rw e kept) (λ e. rw e kept)

  finished_leaves : (d : List ℕ) → Leaves (finished p s d)
  unfolding finished
  finished_leaves d = kept

  executed_leaves : (code : ℕ) (args d : List ℕ) → Leaves (executed p s code args d)
  executed_leaves code args d =
      executed_cases p s code args d Leaves
      (record {
        unserved = kept;
        wrong_length = kept;
        version = λ is h. kept;
        address = λ is h.
            set_address_cases p s args d Leaves
            (record {
              foreign = λ e. kept;
              refused = λ e r. kept;
              taken = λ e r. rw (taken_fits p.bus (get_or args 0 0), r);
            });
        info = λ is h. kept;
        serial = λ is h. by_test (eqb (length p.serial) 0) (λ e. rw e kept) (λ e. rw e kept);
        start = λ is h. kept;
        write = λ is h. written_leaves args d;
        finalize = λ is h. finished_leaves d;
        read = λ is h. shown_leaves args d;
        revision = λ is h. kept;
        longest = λ is h. kept;
      })

  answered_leaves : (a : ℕ) (act : Acted) → Leaves act → unreserved p.bus (finished_call p.bus a act).state.address ≡ true
  answered_leaves a act left = rw (finished_call_address p.bus a act) left

  handled_leaves : (a : ℕ) (f d : List ℕ) (v : Verdict) → unreserved p.bus (handled p s a f d v).state.address ≡ true
  unfolding handled
  handled_leaves a f d Reset = refl
  handled_leaves a f d ResetAddress = refl
  handled_leaves a f d (Ignored reason) = kept
  handled_leaves a f d BadTransfer = answered_leaves (destination p.bus a f) (replying s d invalid_transfer []) kept
  handled_leaves a f d BadSum = answered_leaves (destination p.bus a f) (replying s d invalid_crc []) kept
  handled_leaves a f d Command =
      answered_leaves (destination p.bus a f) (executed p s (command_of p.bus f) (arguments_of p.bus f) d)
      (executed_leaves (command_of p.bus f) (arguments_of p.bus f) d)

  -- whatever the call and the flash, refused or not
  pub calls_leave : (d : List ℕ) (c : Call) → unreserved p.bus (calls p s d c).state.address ≡ true
  calls_leave d (Frame a f n) =
      by_test (eqb (refusal p s (length d) n) 0)
      (λ e. rw (received-handled p s d a f n (eqb-true _ _ e))
      (handled_leaves a f d (verdict p.bus p.longest s.running s.address a f)))
      (λ e. rw (received-refused p s d a f n (eqb-false _ _ e)) kept)
  calls_leave d (Read a n) = rw (read_out_state p s a d n) kept

kept_unreserved : (p : Profile) (s : State) (d : List ℕ) (cs : List Call) → unreserved p.bus s.address ≡ true
    → unreserved p.bus (kept_after ruled p s d cs).address ≡ true
unfolding kept_after
kept_unreserved p s d [] kept = kept
kept_unreserved p s d (c ∷ cs) kept = kept_unreserved p (calls p s d c).state (calls p s d c).flash cs (calls_leave p s kept d c)

pub never_reserved : NeverReserved ruled (λ s. s.address)
never_reserved p d cs = kept_unreserved p fresh d cs refl
