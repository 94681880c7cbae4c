-- Demand 2 of the board of the rules. Along a list the state stays well formed, flash keeps its length (`BoardLaws`), and the past tells
-- what the state keeps (`Received`); so each well-framed frame gets its command's response (`Answered`).
use mathlib.Core.Path.{◌≡◌, refl, sym, ap, subst, ◌∙◌}
use mathlib.Core.Bool.{true}
use mathlib.Core.List.{List, [], ◌∷◌}
use Prim.Native.Nat.{ℕ, ◌+◌, ◌≤◌}
use native.Mathlib.Omega.{arith}
use lib.ListN.{length, get_or}
use Rattle.rules.specs.Profile.{Profile, in_range}
use Rattle.rules.specs.declared.kinds.Bus.{Bus}
use Rattle.rules.specs.declared.kinds.Bus.TheVariants.{I2c, Rs485}
use Rattle.rules.specs.declared.kinds.Address.TheVariants.{Own}
use Rattle.rules.specs.State.{State, Upload, fresh, with_address, with_upload, well_formed}
use Rattle.rules.specs.Numbers.{refusal}
use Rattle.rules.specs.Frames.{reply, destination, command_of, arguments_of, two_bytes}
use Rattle.rules.specs.Commit.{Progress, finalized}
use Rattle.rules.specs.Responses.{Acted, Reply, NoReply, replying, ok, invalid_arguments}
use Rattle.rules.specs.Commands.{reserved, type_matches, set_address, finished, executed}
use Rattle.rules.specs.Board.{Called, with_reply, finished_call, received, read_answered, read_out}
use Rattle.laws.proofs.StateLaws.{in_range_facts, unrefused_refusal, fresh-well_formed}
use Rattle.laws.proofs.TestLaws.{by_test}
use Rattle.laws.proofs.CommandLaws.{set_address_outcomes}
use Rattle.laws.proofs.BoardLaws.{with_reply-upload, received-handled, received_formed_call, read_out_formed_call}
use Rattle.laws.proofs.BoardLaws.{read_out_state, read_out_flash}
use Rattle.ledger.specs.Ledger.{Ledger, opened}
use Rattle.ledger.specs.Calls.{Call, Frame, Read, reaction, ruled, Step, fed, stepped, trace}
use Rattle.demands.specs.Past.{Known, past_of, known_of, well_framed, after}
use Rattle.demands.specs.Acceptance.{new_address, address_status}
use Rattle.demands.specs.Acceptance.{Answers, Unchanged, FrameRight, ReadRight, AllRight, Demand2, StateRight, last_readable}
use Rattle.demands.proofs.Answered
use Rattle.demands.proofs.Dropped
use Rattle.demands.proofs.Received.{received_followed}
use Rattle.demands.proofs.LastReply.{received_last}

-- a command's answer
module _ (p : Profile) (k : Ledger) (a : ℕ) (f : List ℕ) (n : ℕ) where
  -- the step that a call becomes
  abbrev written_down : Called → Step
  written_down c = stepped ruled p k (Frame a f n) (reaction c)

  reply-answers : (act : Acted) (status : ℕ) (results : List ℕ) → act.response ≡ Reply status results
      → Answers p (written_down (finished_call p.bus (destination p.bus a f) act)) a f status results
  reply-answers act status results e = record { number_is = rw e; reply_is = rw e }

  -- an answered command that changes nothing
  replying-answers : (s : State) (d : List ℕ) (act : Acted) (status : ℕ) (results : List ℕ) → act ≡ replying s d status results
      → Answers p (written_down (finished_call p.bus (destination p.bus a f) act)) a f status results
      × Unchanged (known_of s d) (written_down (finished_call p.bus (destination p.bus a f) act))
  replying-answers s d act status results e = (
    reply-answers act status results (ap (λ (x : Acted). x.response) e),
    record {
      flash_is = rw e;
      count_is = rw e (replied_count s status results);
    },
  )
    where
      replied_count : (t : State) (status : ℕ) (results : List ℕ)
          → (with_reply p.bus t (reply p.bus (destination p.bus a f) status results)).upload.count ≡ t.upload.count
      replied_count t status results =
          ap (λ (u : Upload). u.count) (with_reply-upload p.bus t (reply p.bus (destination p.bus a f) status results))

  -- set address, by its outcomes
  address_answers : (s : State) (d : List ℕ) → type_matches p (get_or (arguments_of p.bus f) 1 0) ≡ true
      → Answers p (written_down (finished_call p.bus (destination p.bus a f) (set_address p s (arguments_of p.bus f) d))) a f
      (address_status p.bus f) []
      × Unchanged (known_of s d)
      (written_down (finished_call p.bus (destination p.bus a f) (set_address p s (arguments_of p.bus f) d)))
  address_answers s d typed =
      let outcomes = set_address_outcomes p s (arguments_of p.bus f) d in
      by_test (reserved p.bus (new_address p.bus f))
      (λ r. rw r (replying-answers s d (set_address p s (arguments_of p.bus f) d) invalid_arguments [] (outcomes.refused typed r)))
      (λ r.
      let moved : State = with_address s (Own (new_address p.bus f)) in
      let told = replying-answers moved d (set_address p s (arguments_of p.bus f) d) ok [] (outcomes.taken typed r) in
      rw r (told.0, record { flash_is = told.1.flash_is; count_is = told.1.count_is }))

  silent_unchanged : (s : State) (d : List ℕ) (act : Acted) → act ≡ record { response = NoReply; state = s; flash = d }
      → ((written_down (finished_call p.bus (destination p.bus a f) act)).number ≡ 1)
      × Unchanged (known_of s d) (written_down (finished_call p.bus (destination p.bus a f) act))
  silent_unchanged s d act e = (
    rw e,
    record { flash_is = rw e; count_is = rw e (ap (λ (u : Upload). u.count) (with_reply-upload p.bus s [])) },
  )

  -- finalize says the count that it leaves
  finished-answers : (s : State) (d : List ℕ)
      → Answers p (written_down (finished_call p.bus (destination p.bus a f) (finished p s d))) a f ok
      (two_bytes (written_down (finished_call p.bus (destination p.bus a f) (finished p s d))).count)
  unfolding finished
  finished-answers s d =
      let g : Progress = finalized p (record { upload = s.upload; flash = d }) in
      let kept = with_reply-upload p.bus (with_upload s g.upload)
      (reply p.bus (destination p.bus a f) ok (two_bytes g.upload.count)) in
      record {
        number_is = refl;
        reply_is = ap (λ (u : Upload). reply p.bus (destination p.bus a f) ok (two_bytes u.count)) (sym kept);
      }

  module _ (s : State) (d : List ℕ) (range : in_range p ≡ true) (room : p.offset + p.size ≤ length d)
      (formed : well_formed p s ≡ true) where
    unrefused : p.longest ≤ n → refusal p s (length d) n ≡ 0
    unrefused long = unrefused_refusal p s (length d) n range formed room long

    commanded : p.longest ≤ n → well_framed p (past_of s) a f ≡ true
        → received p s a f d n ≡ finished_call p.bus (destination p.bus a f)
        (executed p s (command_of p.bus f) (arguments_of p.bus f) d)
    commanded long heard = received-handled p s d a f n (unrefused long) ∙ Answered.handled_command p s a f heard d

    least : 32 ≤ p.longest
    least = (in_range_facts p range).longest_least

    -- the command, by its code
    abbrev acts : ℕ → Acted
    acts code = executed p s code (arguments_of p.bus f) d

    pub frame_right : FrameRight p (known_of s d) (written_down (received p s a f d n)) a f n
    frame_right = record {
      accepts = λ long heard is ordered.
          let most = Answered.arguments_most p s a f heard (in_range_facts p range).longest_most in
          rw (commanded long heard, is)
          (reply-answers (acts 0x06) ok [] (Answered.write-accepted p s (arguments_of p.bus f) d most ordered));
      refuses = λ long heard is other.
          rw (commanded long heard, is)
          (replying-answers s d (acts 0x06) invalid_arguments [] (Answered.write_refused p s (arguments_of p.bus f) d other));
      finalizes = λ long heard is none.
          rw (commanded long heard, is, Answered.finalize-finished p s (arguments_of p.bus f) d none) (finished-answers s d);
      versions = λ long heard is none.
          rw (commanded long heard, is) (replying-answers s d (acts 0x00) ok
          _ (Answered.version_replying p s (arguments_of p.bus f) d none)).0;
      reads = λ long heard is three within.
          rw (commanded long heard, is) (replying-answers s d (acts 0x08) ok
          _ (Answered.read_replying p s (arguments_of p.bus f) d three within)).0;
      moves = λ long heard is two typed.
          rw (commanded long heard, is, Answered.address_set p s (arguments_of p.bus f) d two) (address_answers s d typed);
      other_type = λ long heard is two other.
          rw (commanded long heard, is, Answered.address_set p s (arguments_of p.bus f) d two)
          (silent_unchanged s d (set_address p s (arguments_of p.bus f) d)
          ((set_address_outcomes p s (arguments_of p.bus f) d).foreign other));
      drops = λ long some.
          let is = received-handled p s d a f n (unrefused long) ∙ (Dropped.handled_drops p s a f d least).drops some in
          rw is (refl, refl, record { flash_is = refl; count_is = refl });
      takes = λ long none. rw (received-handled p s d a f n (unrefused long)) ((Dropped.handled_drops p s a f d least).takes none);
      started = λ long running other.
          rw (received-handled p s d a f n (unrefused long), Answered.handled_running p s a f d running other)
          (refl, record { flash_is = refl; count_is = refl });
    }

-- a read
module _ (p : Profile) (k : Ledger) (a n : ℕ) (s : State) (d : List ℕ) where
  abbrev read_down : Step
  read_down = stepped ruled p k (Read a n) (reaction (read_out p s a d n))

  due : (bus : Bus) → last_readable bus (known_of s d) a ≡ read_answered bus s a
  due I2c = refl
  due Rs485 = refl

  pub read_right : in_range p ≡ true → p.offset + p.size ≤ length d → well_formed p s ≡ true → ReadRight p (known_of s d) read_down a n
  unfolding read_out
  read_right range room formed = record {
    hands_out = λ long yes.
        let none = unrefused_refusal p s (length d) n range formed room long in
        rw (none, sym (due p.bus), yes) (refl, refl);
    silence = λ long no. let none = unrefused_refusal p s (length d) n range formed room long in rw (none, sym (due p.bus), no);
    keeps = record { flash_is = read_out_flash p s a d n; count_is = ap (λ (t : State). t.upload.count) (read_out_state p s a d n) };
  }

  -- what is known follows the state
  pub read_known : after p (known_of s d) read_down ≡ known_of (read_out p s a d n).state (read_out p s a d n).flash
  read_known = rw (read_out_state p s a d n)

pub state_right : StateRight
state_right p s d k (Frame a f n) range formed room = frame_right p k a f n s d range room formed
state_right p s d k (Read a n) range formed room = read_right p k a n s d range room formed

pub received_known : (p : Profile) (s : State) (a : ℕ) (f d : List ℕ) (n : ℕ) (k : Ledger)
    → after p (known_of s d) (stepped ruled p k (Frame a f n) (reaction (received p s a f d n)))
    ≡ known_of (received p s a f d n).state (received p s a f d n).flash
received_known p s a f d n k = rw (received_followed p s a f d n, received_last p s a f d n)

-- a list from any well-formed state
module _ (p : Profile) (range : in_range p ≡ true) where
  all_right : (s : State) (d : List ℕ) (k : Ledger) (cs : List Call) → well_formed p s ≡ true → p.offset + p.size ≤ length d
      → AllRight p (known_of s d) (trace ruled p s d k cs)
  unfolding trace
  all_right s d k [] formed room = tt
  all_right s d k (Frame a f n ∷ cs) formed room =
      let c : Called = received p s a f d n in
      let o = received_formed_call p s d a f n formed in
      let rest =
      all_right c.state c.flash (fed p k (Frame a f n) c.number c.reply) cs o.well_formed_holds
      (omega (arith, o.outside.length_kept)) in (
        frame_right p k a f n s d range room formed,
        subst (λ (q : Known). AllRight p q (trace ruled p c.state c.flash (fed p k (Frame a f n) c.number c.reply) cs))
            (sym (received_known p s a f d n k)) rest,
      )
  all_right s d k (Read a n ∷ cs) formed room =
      let c : Called = read_out p s a d n in
      let o = read_out_formed_call p s d a n formed in
      let rest = all_right c.state c.flash k cs o.well_formed_holds (omega (arith, o.outside.length_kept)) in (
        read_right p k a n s d range room formed,
        subst (λ (q : Known). AllRight p q (trace ruled p c.state c.flash k cs)) (sym (read_known p k a n s d)) rest,
      )

pub demand2 : Demand2 ruled
demand2 p d cs range room = all_right p range fresh d (opened d) cs (fresh-well_formed p) room
