-- The response of a command fits the decoder: a status that it knows, and with OK at least the command's fixed part. Command by command
-- (`executed_cases`); a read within S shows as many bytes as it asks for. A command that replies keeps the board stopped, and only set
-- address moves it.
use mathlib.Core.Path.{◌≡◌, refl}
use mathlib.Core.Bool.{false}
use mathlib.Core.List.{List, [], ◌∷◌}
use Prim.Native.Nat.{ℕ, ◌+◌, ◌-◌, ◌≤◌}
use native.Mathlib.Omega.{arith}
use lib.Dec.{eqb, leb}
use lib.ListN.{length, take, drop, get_or, length-drop}
use lib.Seq.{length-take-le}
use borrow.Author.Tests.{leb-true, le-ltb}
use Rattle.rules.specs.Profile.{Profile}
use Rattle.rules.specs.State.{State}
use Rattle.rules.specs.Frames.{shortest_reply, two_bytes, number_at}
use Rattle.rules.specs.Responses.{Response, Reply, NoReply, Acted, replying, ok, command_not_supported, invalid_arguments}
use Rattle.rules.specs.Commands.{set_address, hardware_info, serial_number, accepted, written, finished, readable, shown, executed}
use Rattle.rules.specs.Master.{fixed_part, results_missing}
use Rattle.laws.proofs.TestLaws.{by_test, &&_true}
use Rattle.laws.proofs.CommandLaws.{set_address_cases, executed_cases}

-- a command that responds with a status and results
pub record Responding (s : State) (code asked : ℕ) (act : Acted) (status : ℕ) (results : List ℕ) : Type 0 where
  pub status_known : status ≤ 5
  pub enough : results_missing code asked status (length results) ≡ false
  pub still_stopped : act.state.running ≡ s.running
  pub address_kept : (code ≡ 0x01 → ⊥) → act.state.address ≡ s.address

abbrev pub Responded : State → ℕ → ℕ → Acted → Response → Type 0
Responded s code asked act (Reply status results) = Responding s code asked act status results
Responded s code asked act NoReply = Unit

abbrev pub Responds : State → ℕ → ℕ → Acted → Type 0
Responds s code asked act = Responded s code asked act act.response

-- OK needs the fixed part
enough_results : (code asked n : ℕ) → fixed_part code asked ≤ n → results_missing code asked ok n ≡ false
enough_results code asked n h = le-ltb n (fixed_part code asked) h

module _ (p : Profile) (s : State) (d : List ℕ) (code asked : ℕ) where
  replying_responds : (status : ℕ) (results : List ℕ) → status ≤ 5 → results_missing code asked status (length results) ≡ false
      → Responds s code asked (replying s d status results)
  replying_responds status results known enough =
      record { status_known = known; enough = enough; still_stopped = refl; address_kept = λ other. refl }

  unsupported_responds : Responds s code asked (replying s d command_not_supported [])
  unsupported_responds = replying_responds command_not_supported [] (omega arith) refl

  invalid_responds : Responds s code asked (replying s d invalid_arguments [])
  invalid_responds = replying_responds invalid_arguments [] (omega arith) refl

  ok_responds : (results : List ℕ) → fixed_part code asked ≤ length results → Responds s code asked (replying s d ok results)
  ok_responds results h = replying_responds ok results (omega arith) (enough_results code asked (length results) h)

  set_address_responds : (args : List ℕ) → code ≡ 0x01 → Responds s code asked (set_address p s args d)
  unfolding fixed_part
  set_address_responds args is =
      set_address_cases p s args d (Responds s code asked)
      (record {
        foreign = λ e. tt;
        refused = λ e r. invalid_responds;
        taken = λ e r.
            record { status_known = omega arith; enough = rw is; still_stopped = refl; address_kept = λ other. absurd (other is) };
      })

  serial_number_responds : code ≡ 0x04 → Responds s code asked (serial_number p s d)
  unfolding fixed_part
  serial_number_responds is =
      by_test (eqb (length p.serial) 0) (λ e. rw e unsupported_responds) (λ e. rw e (ok_responds p.serial (rw is (omega arith))))

  written_responds : (args : List ℕ) → code ≡ 0x06 → Responds s code asked (written p s args d)
  unfolding written fixed_part
  written_responds args is =
      by_test (accepted p.size s.upload.next (number_at args 0) (length (drop 2 args)))
      (λ e. rw e (record { status_known = omega arith; enough = rw is; still_stopped = refl; address_kept = λ other. refl }))
      (λ e. rw e invalid_responds)

  finished_responds : code ≡ 0x07 → Responds s code asked (finished p s d)
  unfolding finished fixed_part
  finished_responds is = record { status_known = omega arith; enough = rw is; still_stopped = refl; address_kept = λ other. refl }

  shown_responds : (args : List ℕ) → p.offset + p.size ≤ length d → code ≡ 0x08 → asked ≡ get_or args 2 0
      → Responds s code asked (shown p s args d)
  unfolding shown fixed_part
  shown_responds args room is length_is =
      by_test (readable p (number_at args 0) (get_or args 2 0))
      (λ e.
      let within : number_at args 0 + get_or args 2 0 ≤ p.size =
      leb-true (number_at args 0 + get_or args 2 0) p.size
      (&&_true (leb (number_at args 0 + get_or args 2 0) p.size) (leb (get_or args 2 0) (p.longest - shortest_reply p.bus)) e
      ).0 in
      let held : length (take (get_or args 2 0) (drop (p.offset + number_at args 0) d)) ≡ get_or args 2 0 =
      length-take-le (get_or args 2 0) (drop (p.offset + number_at args 0) d) (simp length-drop (omega arith)) in
      rw e (ok_responds _ (rw (is, held, length_is) (omega arith))))
      (λ e. rw e invalid_responds)

  pub executed_responds : (args : List ℕ) → p.offset + p.size ≤ length d → (code ≡ 0x08 → asked ≡ get_or args 2 0)
      → Responds s code asked (executed p s code args d)
  unfolding fixed_part
  executed_responds args room read_length =
      executed_cases p s code args d (Responds s code asked)
      (record {
        unserved = unsupported_responds;
        wrong_length = invalid_responds;
        version = λ e h. ok_responds (2 ∷ 2 ∷ []) (rw e (omega arith));
        address = λ e h. set_address_responds args e;
        info = λ e h. ok_responds (hardware_info p) (rw e (omega arith));
        serial = λ e h. serial_number_responds e;
        start = λ e h. tt;
        write = λ e h. written_responds args e;
        finalize = λ e h. finished_responds e;
        read = λ e h. shown_responds args room e (read_length e);
        revision = λ e h. ok_responds (p.actual ∷ []) (rw e (omega arith));
        longest = λ e h. ok_responds (two_bytes p.longest) (rw e (omega arith));
      })
