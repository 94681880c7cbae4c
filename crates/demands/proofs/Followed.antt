-- What the past tells is what the board keeps: a command to this board, given to the tracker by frame and answer, shows running, address
-- and next of the state that it leaves. By its code.
use mathlib.Core.Path.{◌≡◌, refl, sym, ap, ◌∙◌}
use mathlib.Core.Bool.{true, false, not, ◌&&◌, and-false}
use mathlib.Core.List.{List, [], ◌∷◌}
use Prim.Native.Nat.{ℕ, ◌+◌, ◌≤◌}
use native.Mathlib.Omega.{arith}
use lib.Dec.{eqb, leb}
use lib.ListN.{length, get_or, drop}
use borrow.Author.Tests.{leb-true}
use Rattle.rules.specs.Profile.{Profile}
use Rattle.rules.specs.State.{State, with_upload}
use Rattle.rules.specs.Frames.{reply, destination, command_of, arguments_of, number_at, two_bytes, reset_frame, reset_address_frame}
use Rattle.rules.specs.Frames.{is_general}
use Rattle.rules.specs.Commit.{Progress, taken_all, finalized}
use Rattle.rules.specs.Responses.{Acted, Reply, replying, ok, command_not_supported, invalid_arguments}
use Rattle.rules.specs.Commands.{set_address, hardware_info, serial_number, started, accepted, restarted, written, finished}
use Rattle.rules.specs.Commands.{readable, shown, executed, tabled, length_allowed}
use Rattle.rules.specs.Board.{Called, finished_call}
use Rattle.laws.proofs.TestLaws.{by_test, &&_true}
use Rattle.laws.proofs.UploadLaws.{next_taken_all, next_finalized}
use Rattle.laws.proofs.CommandLaws.{next_restarted, set_address_cases, executed_cases}
use Rattle.ledger.specs.Ledger.{write_address, write_data}
use Rattle.ledger.proofs.FrameReading.{write_address_lem, write_data_lem}
use Rattle.demands.specs.Past.{past_of, well_framed, after_frame}
use Rattle.demands.proofs.PastLaws.{past_of_with_reply, after_silence, after-reply, after_address, after_write}

-- the tracker fed with what a call answers shows what the call leaves
abbrev pub Follows : Profile → State → ℕ → List ℕ → Called → Type 0
Follows p s a f c = after_frame p (past_of s) a f c.number c.reply ≡ past_of c.state

-- and with what a command does
abbrev Followed : Profile → State → ℕ → List ℕ → Acted → Type 0
Followed p s a f act = Follows p s a f (finished_call p.bus (destination p.bus a f) act)

-- an allowed argument length lies within the row
allowed_least : (code n : ℕ) → length_allowed code n ≡ true → tabled code 1 ≤ n
allowed_least code n e = leb-true (tabled code 1) n (&&_true (leb (tabled code 1) n) (leb n (tabled code 2)) e).0

allowed_most : (code n : ℕ) → length_allowed code n ≡ true → n ≤ tabled code 2
allowed_most code n e = leb-true n (tabled code 2) (&&_true (leb (tabled code 1) n) (leb n (tabled code 2)) e).1

module _ (p : Profile) (s : State) (a : ℕ) (f d : List ℕ) where
  -- a reply: the last reply is not seen
  reply_followed : (left : State) (e : List ℕ) (status : ℕ) (results : List ℕ)
      → after_frame p (past_of s) a f 0 (reply p.bus (destination p.bus a f) status results) ≡ past_of left
      → Followed p s a f (record { response = Reply status results; state = left; flash = e })
  reply_followed left e status results h =
      h ∙ sym (past_of_with_reply p.bus left (reply p.bus (destination p.bus a f) status results))

  -- one that changes nothing, to another command than set address and write, or not OK
  replying_followed : (status : ℕ) (results : List ℕ) → (eqb (command_of p.bus f) 0x01 && eqb status 0) ≡ false
      → (eqb (command_of p.bus f) 0x06 && eqb status 0) ≡ false
      → Followed p s a f (replying s d status results)
  replying_followed status results no_address no_write =
      reply_followed s d status results (after-reply p (past_of s) a f (destination p.bus a f) status results no_address no_write)

  pub refused_followed : (status : ℕ) → eqb status 0 ≡ false → Followed p s a f (replying s d status [])
  refused_followed status e =
      replying_followed status [] (rw e (and-false (eqb (command_of p.bus f) 0x01))) (rw e (and-false (eqb (command_of p.bus f) 0x06)))

  ok_followed : (code : ℕ) (results : List ℕ) → command_of p.bus f ≡ code → eqb code 0x01 ≡ false → eqb code 0x06 ≡ false
      → Followed p s a f (replying s d ok results)
  ok_followed code results is no_address no_write = replying_followed ok results (rw (is, no_address)) (rw (is, no_write))

  serial_followed : command_of p.bus f ≡ 0x04 → Followed p s a f (serial_number p s d)
  serial_followed is =
      by_test (eqb (length p.serial) 0) (λ e. rw e (refused_followed command_not_supported refl))
      (λ e. rw e (ok_followed 0x04 p.serial is refl refl))

  read_followed : command_of p.bus f ≡ 0x08 → Followed p s a f (shown p s (arguments_of p.bus f) d)
  unfolding shown
  read_followed is =
      by_test (readable p (number_at (arguments_of p.bus f) 0) (get_or (arguments_of p.bus f) 2 0))
      (λ e. rw e (ok_followed 0x08 _ is refl refl))
      (λ e. rw e (refused_followed invalid_arguments refl))

  finalize_followed : command_of p.bus f ≡ 0x07 → Followed p s a f (finished p s d)
  unfolding finished
  finalize_followed is =
      let g : Progress = finalized p (record { upload = s.upload; flash = d }) in
      let kept : past_of s ≡ past_of (with_upload s g.upload) =
      ap (λ (n : ℕ). record { running = s.running; address = s.address; next = n })
      (sym (next_finalized p (record { upload = s.upload; flash = d }))) in
      reply_followed (with_upload s g.upload) g.flash ok (two_bytes g.upload.count)
      (after-reply p (past_of s) a f (destination p.bus a f) ok (two_bytes g.upload.count) (rw is) (rw is) ∙ kept)

  -- an accepted write: next is its address and its data's length further
  accepted_followed : command_of p.bus f ≡ 0x06 → 2 ≤ length (arguments_of p.bus f)
      → accepted p.size s.upload.next (number_at (arguments_of p.bus f) 0) (length (drop 2 (arguments_of p.bus f))) ≡ true
      → Followed p s a f (written p s (arguments_of p.bus f) d)
  unfolding written
  accepted_followed is two e =
      let args : List ℕ = arguments_of p.bus f in
      let start : Progress = record { upload = restarted (number_at args 0) s.upload; flash = d } in
      let left : State = with_upload s (taken_all p start (drop 2 args)).upload in
      let moved : write_address p.bus f + length (write_data p.bus f) ≡ left.upload.next =
      omega (
        arith,
        write_address_lem p.bus f two,
        ap length (write_data_lem p.bus f),
        next_taken_all p start (drop 2 args),
        next_restarted p.size (length (drop 2 args)) (number_at args 0) s.upload e,
      ) in
      rw e
      (reply_followed left (taken_all p start (drop 2 args)).flash ok []
      (after_write p (past_of s) a f (destination p.bus a f) is
      ∙ ap (λ (n : ℕ). record { running = s.running; address = s.address; next = n }) moved))

  write_followed : command_of p.bus f ≡ 0x06 → length_allowed 0x06 (length (arguments_of p.bus f)) ≡ true
      → Followed p s a f (written p s (arguments_of p.bus f) d)
  unfolding written tabled
  write_followed is allowed =
      by_test (accepted p.size s.upload.next (number_at (arguments_of p.bus f) 0) (length (drop 2 (arguments_of p.bus f))))
      (accepted_followed is (allowed_least 0x06 (length (arguments_of p.bus f)) allowed))
      (λ e. rw e (refused_followed invalid_arguments refl))

  -- while the frame is a command to this board
  module _ (heard : well_framed p (past_of s) a f ≡ true)
      (no_reset : is_general p.bus a f (reset_frame p.bus) ≡ false)
      (no_address : is_general p.bus a f (reset_address_frame p.bus) ≡ false) where
    address_followed : command_of p.bus f ≡ 0x01 → Followed p s a f (set_address p s (arguments_of p.bus f) d)
    address_followed is =
        set_address_cases p s (arguments_of p.bus f) d (Followed p s a f)
        (record {
          foreign = λ e.
              after_silence p (past_of s) a f [] no_reset (rw no_address (and-false (not s.running))) (rw (heard, is))
              ∙ sym (past_of_with_reply p.bus s []);
          refused = λ e r. refused_followed invalid_arguments refl;
          taken = λ e r. reply_followed _ d ok [] (after_address p (past_of s) a f (destination p.bus a f) is);
        })

    start_followed : command_of p.bus f ≡ 0x05 → length_allowed 0x05 (length (arguments_of p.bus f)) ≡ true
        → Followed p s a f (started s d)
    unfolding after_frame tabled
    start_followed is allowed =
        let none : length (arguments_of p.bus f) ≡ 0 = omega (arith, allowed_most 0x05 (length (arguments_of p.bus f)) allowed) in
        rw (no_reset, no_address, and-false (not s.running), heard, is, none) (sym (past_of_with_reply p.bus (started s d).state []))

    pub executed_followed : Followed p s a f (executed p s (command_of p.bus f) (arguments_of p.bus f) d)
    executed_followed =
        executed_cases p s (command_of p.bus f) (arguments_of p.bus f) d (Followed p s a f)
        (record {
          unserved = refused_followed command_not_supported refl;
          wrong_length = refused_followed invalid_arguments refl;
          version = λ is h. ok_followed 0x00 (2 ∷ 2 ∷ []) is refl refl;
          address = λ is h. address_followed is;
          info = λ is h. ok_followed 0x03 (hardware_info p) is refl refl;
          serial = λ is h. serial_followed is;
          start = start_followed;
          write = write_followed;
          finalize = λ is h. finalize_followed is;
          read = λ is h. read_followed is;
          revision = λ is h. ok_followed 0x09 (p.actual ∷ []) is refl refl;
          longest = λ is h. ok_followed 0x0c (two_bytes p.longest) is refl refl;
        })
