-- Every reply is read. The call is the command's own (`Requests`), its response fits the decoder (`Responded`), and the decoder finds in a
-- whole reply just its status and results (`FrameLaws`). On I²C the reply is the last reply of the state that the call leaves.
use mathlib.Core.Path.{◌≡◌, refl, sym, ap, subst, ◌∙◌}
use mathlib.Core.Bool.{true, false, false≢true}
use mathlib.Core.List.{List, [], ◌∷◌, ◌++◌, append-nil}
use Prim.Native.Nat.{ℕ, ◌≤◌}
use native.Mathlib.Omega.{arith}
use lib.Dec.{eqb}
use lib.ListN.{length, drop, get_or}
use lib.Seq.{get_or-drop}
use borrow.Author.Tests.{eqb-true, eqb-false, eq-eqb, ne_eqb}
use Rattle.rules.specs.declared.kinds.Bus.{Bus}
use Rattle.rules.specs.declared.kinds.Bus.TheVariants.{I2c, Rs485}
use Rattle.rules.specs.declared.kinds.Address.TheVariants.{Own}
use Rattle.rules.specs.Profile.{Profile}
use Rattle.rules.specs.State.{State}
use Rattle.rules.specs.Numbers.{Unrefused}
use Rattle.rules.specs.Frames.{shortest_reply, reply, addressed}
use Rattle.rules.specs.Responses.{Response, Reply, NoReply, Acted}
use Rattle.rules.specs.Commands.{address_taken, reserved, set_address, performed, tabled, served, length_allowed}
use Rattle.rules.specs.Board.{Called, with_reply}
use Rattle.rules.specs.Master.{Instruction, Commands, AddressReset, BoardReset}
use Rattle.rules.specs.Master.{results_missing, decoded_read, results_in, result_bytes, which_read, address_over}
use Rattle.laws.proofs.TestLaws.{by_test}
use Rattle.laws.proofs.StateLaws.{refusal_unrefused, unrefused_refusal}
use Rattle.laws.proofs.CommandLaws.{length-reply, set_address_cases}
use Rattle.laws.proofs.AddressLaws.{taken-whole, taken-addressed}
use Rattle.laws.proofs.BoardLaws.{FormedCall, received_formed_call, with_reply_last, with_reply_running, with_reply_address, read_again}
use Rattle.laws.proofs.FrameLaws.{Ends, decoded-reply, results-reply}
use Rattle.roundtrip.specs.Sending.{Sending, Given, AddressedBy, bus, frame, call}
use Rattle.roundtrip.specs.Sending.{instruction}
use Rattle.roundtrip.specs.Understood.{TakenAs, Understood}
use Rattle.roundtrip.specs.ReadBack.{ReadsAs, TwoReads, addressed_next, ReadOut, ResponseRead, Replied, RepliesRead}
use Rattle.laws.proofs.RequestLaws.{Allowed, AllowedBy}
use Rattle.roundtrip.proofs.Requests.{NewAddress, made_allowed, made_address, executed-performed, given_understood}
use Rattle.roundtrip.proofs.Responded.{Responding, Responded, Responds, executed_responds}

-- a whole reply decodes
whole : (b : Bus) (code to asked status : ℕ) (results more : List ℕ) → served code ≡ true → Ends b more → status ≤ 5
    → results_missing code asked status (length results) ≡ false
    → ReadsAs b code to asked (reply b to status results ++ more) status results
whole b code to asked status results more row ends known enough =
    let e = decoded-reply to status results more b code asked row ends known enough in
    record { decoding_is = e; results_are = rw e (results-reply to status results more b) }

ends_nil : (b : Bus) → Ends b []
ends_nil I2c = tt
ends_nil Rs485 = refl

shortest : (b : Bus) → 3 ≤ shortest_reply b
shortest I2c = omega arith
shortest Rs485 = omega arith

-- of two reads the first that decodes
module _ (code asked : ℕ) (first second : List ℕ) (results : List ℕ) where
  first_read : (decoded_read code asked first).number ≡ 0 → results_in (decoded_read code asked first) first ≡ results
      → TwoReads code asked first second 1 results
  unfolding which_read result_bytes
  first_read e r = record { which_is = rw (eq-eqb _ _ e); results_are = rw (eq-eqb _ _ e) r }

  second_read : ((decoded_read code asked first).number ≡ 0 → ⊥) → (decoded_read code asked second).number ≡ 0
      → results_in (decoded_read code asked second) second ≡ results → TwoReads code asked first second 2 results
  unfolding which_read result_bytes
  second_read ne e r = record { which_is = rw (ne_eqb _ _ ne, eq-eqb _ _ e); results_are = rw (ne_eqb _ _ ne, eq-eqb _ _ e) r }

-- an I²C reply holds no address
reply_anywhere : (a b status : ℕ) (results : List ℕ) → reply I2c a status results ≡ reply I2c b status results
unfolding reply
reply_anywhere a b status results = refl

-- a set address that replies has taken the address, if it isn't reserved
set_address-taken : (p : Profile) (s : State) (args d : List ℕ) (status : ℕ) (results : List ℕ)
    → reserved p.bus (address_taken p.bus (get_or args 0 0)) ≡ false → (set_address p s args d).response ≡ Reply status results
    → (set_address p s args d).state.address ≡ Own (address_taken p.bus (get_or args 0 0))
set_address-taken p s args d status results free =
    set_address_cases p s args d
    (λ a. a.response ≡ Reply status results → a.state.address ≡ Own (address_taken p.bus (get_or args 0 0)))
    (record { foreign = λ e said. cc; refused = λ e r said. absurd (false≢true (sym free ∙ r)); taken = λ e r said. refl })

performed-set_address : (p : Profile) (s : State) (args d : List ℕ) → performed p s 0x01 args d ≡ set_address p s args d
unfolding performed
performed-set_address p s args d = refl

-- where a board is addressed next: a set address has its address byte
next_set : (to : ℕ) (arguments : List ℕ) → length_allowed 0x01 (length arguments) ≡ true
    → addressed_next to 0x01 arguments ≡ get_or arguments 0 0
unfolding tabled
next_set to [] long = cc
next_set to (a ∷ arguments) long = refl

next_kept : (to code : ℕ) (arguments : List ℕ) → eqb code 0x01 ≡ false → addressed_next to code arguments ≡ to
next_kept to code [] e = refl
next_kept to code (a ∷ arguments) e = rw e

module _ (x : Sending) (given : Given x) (code : ℕ) (arguments : List ℕ) (taken : TakenAs x code arguments) where
  abbrev act : Acted
  act = performed x.profile x.state code arguments x.flash

  unrefused : Unrefused x.profile x.state (length x.flash) x.buffer
  unrefused = refusal_unrefused x.profile x.state (length x.flash) x.buffer given.none_refused

  left_formed_call : FormedCall x.profile x.flash (call x)
  left_formed_call = received_formed_call x.profile x.state x.flash x.beside (frame x) x.buffer unrefused.well_formed_holds

  module _ (asked status : ℕ) (results : List ℕ) (said : act.response ≡ Reply status results) where
    abbrev made : List ℕ
    made = reply (bus x) x.to status results

    called : call x ≡ record { number = 0; reply = made; state = with_reply (bus x) act.state made; flash = act.flash }
    called = taken.call_is ∙ rw said

    reply_is : (call x).reply ≡ made
    reply_is = ap (λ (c : Called). c.reply) called

    module _ (row : served code ≡ true) (stopped : x.state.running ≡ false)
        (responding : Responding x.state code asked act status results) where
      reads_whole : ReadsAs (bus x) code x.to asked (call x).reply status results
      reads_whole =
          let more : ReadsAs (bus x) code x.to asked (made ++ []) status results =
          whole (bus x) code x.to asked status results [] row (ends_nil (bus x)) responding.status_known responding.enough in
          rw reply_is (rw append-nil at more)

      left_running : (call x).state.running ≡ false
      left_running = rw called (with_reply_running (bus x) act.state made) ∙ responding.still_stopped ∙ stopped

      left_last : bus x ≡ I2c → (call x).state.last ≡ (call x).reply
      left_last i = rw called (with_reply_last (bus x) act.state made i)

      left_address : (call x).state.address ≡ act.state.address
      left_address = rw called (with_reply_address (bus x) act.state made)

      some : length (call x).reply ≡ 0 → ⊥
      some e = omega (arith, ap length reply_is, length-reply (bus x) x.to status results, shortest (bus x))

      read_out_holds : bus x ≡ I2c → ReadOut x code asked status results
      read_out_holds i =
          let reply-i2c : (call x).reply ≡ reply I2c x.to status results =
          reply_is ∙ ap (λ (b : Bus). reply b x.to status results) i in
          let unaddressed : (call x).reply ≡ reply I2c 0 status results = reply-i2c ∙ reply_anywhere x.to 0 status results in
          let again : (more : List ℕ) → ReadsAs I2c code 0 asked ((call x).reply ++ more) status results =
          λ more. rw unaddressed (whole I2c code 0 asked status results more row tt responding.status_known responding.enough) in
          record {
            read = λ address buffer heard long.
                read_again x.profile (call x) address buffer i
                (unrefused_refusal x.profile (call x).state (length (call x).flash) buffer unrefused.in_range_holds
                left_formed_call.well_formed_holds
                (omega (arith, unrefused.flash_holds, left_formed_call.outside.length_kept)) long)
                left_running heard (left_last i) some (rw called);
            longer =
                λ more. rw reply-i2c (whole I2c code x.to asked status results more row tt responding.status_known
                responding.enough);
            first_whole = λ more second.
                first_read code asked ((call x).reply ++ more) second results (rw (again more).decoding_is) (again more).results_are;
            second_whole = λ first more damaged.
                second_read code asked first ((call x).reply ++ more) results damaged (rw (again more).decoding_is)
                (again more).results_are;
          }

      -- set address to a free address of the bus
      module _ (is : code ≡ 0x01) (over : address_over (bus x) (get_or arguments 0 0) ≡ false)
          (free : reserved (bus x) (get_or arguments 0 0) ≡ false) where
        free_taken : reserved (bus x) (address_taken (bus x) (get_or arguments 0 0)) ≡ false
        free_taken = rw (taken-whole (bus x) (get_or arguments 0 0) over) free

        moved : act.state.address ≡ Own (address_taken (bus x) (get_or arguments 0 0))
        moved =
            let same : act ≡ set_address x.profile x.state arguments x.flash =
            ap (λ (k : ℕ). performed x.profile x.state k arguments x.flash) is
            ∙ performed-set_address x.profile x.state arguments x.flash in
            rw same (set_address-taken x.profile x.state arguments x.flash status results free_taken (rw same at said))

        moved_addressed : length_allowed 0x01 (length arguments) ≡ true
            → addressed (bus x) (call x).state.address (addressed_next x.to code arguments) ≡ true
        moved_addressed long =
            let at : addressed_next x.to code arguments ≡ address_taken (bus x) (get_or arguments 0 0) =
            rw is (next_set x.to arguments long) ∙ sym (taken-whole (bus x) (get_or arguments 0 0) over) in
            rw (left_address, moved, at) (taken-addressed (bus x) (get_or arguments 0 0) free_taken)

      next_addressed : addressed (bus x) x.state.address x.to ≡ true
          → NewAddress (bus x) (Commands code arguments) → length_allowed code (length arguments) ≡ true
          → addressed (bus x) (call x).state.address (addressed_next x.to code arguments) ≡ true
      next_addressed heard fits long =
          by_test (eqb code 0x01)
          (λ e.
          let is : code ≡ 0x01 = eqb-true code 0x01 e in
          let whole : length_allowed 0x01 (length arguments) ≡ true = rw is at long in
          moved_addressed is (fits is whole).0 (fits is whole).1 whole)
          (λ e. rw (left_address, responding.address_kept (eqb-false code 0x01 e), next_kept x.to code arguments e) heard)

-- a command, by its response
module _ (x : Sending) (given : Given x) (code : ℕ) (arguments : List ℕ) (taken : TakenAs x code arguments)
    (allowed : Allowed (bus x) x.profile.longest x.to code (length arguments))
    (address_fits_holds : NewAddress (bus x) (Commands code arguments))
    (heard : (x.state.running ≡ false) × (addressed (bus x) x.state.address x.to ≡ true)) (asked : ℕ)
    (read_length : code ≡ 0x08 → asked ≡ get_or arguments 2 0) where
  speaks : Responds x.state code asked (performed x.profile x.state code arguments x.flash)
  speaks =
      rw (executed-performed x.profile x.state code arguments x.flash allowed.is_served allowed.length_allowed_holds) at
      (executed_responds x.profile x.state x.flash code asked arguments (unrefused x given code arguments taken).flash_holds
      read_length)

  replying_by : (r : Response) → (performed x.profile x.state code arguments x.flash).response ≡ r
      → ResponseRead x code arguments asked r
  replying_by (Reply status results) said =
      let responding : Responding x.state code asked (act x given code arguments taken) status results =
      subst (λ (r : Response). Responded x.state code asked (act x given code arguments taken) r) said speaks in
      record {
        number_is = rw (called x given code arguments taken asked status results said);
        reads = reads_whole x given code arguments taken asked status results said allowed.is_served heard.0 responding;
        read_out_holds = read_out_holds x given code arguments taken asked status results said allowed.is_served heard.0 responding;
        next_addressed =
            next_addressed x given code arguments taken asked status results said allowed.is_served heard.0 responding heard.1
            address_fits_holds allowed.length_allowed_holds;
      }
  replying_by NoReply said = ap (λ (c : Called). c.number) taken.call_is ∙ rw said

-- the third of three bytes
third : (l : List ℕ) (n : ℕ) → drop 2 l ≡ n ∷ [] → n ≡ get_or l 2 0
third l n e = sym (ap (λ (k : List ℕ). get_or k 0 0) e) ∙ get_or-drop 2 l 0 0

replied : (x : Sending) → Given x → (a : Instruction) → Understood x a → AllowedBy (bus x) x.profile.longest x.to a
    → NewAddress (bus x) a
    → AddressedBy x.profile x.state x.to a → Replied x a
replied x given (Commands code arguments) taken allowed fits heard =
    λ asked read_length.
    replying_by x given code arguments taken allowed fits heard asked (λ is. third arguments asked (read_length is)) _ refl
replied x given AddressReset taken allowed fits heard = ap (λ (c : Called). c.number) taken.1
replied x given BoardReset taken allowed fits heard = ap (λ (c : Called). c.number) taken.1

pub replies_read : RepliesRead
replies_read x given =
    replied x given (instruction x) (given_understood x given) (made_allowed x given.made) (made_address x given.made) given.heard
