-- Laws of the commands: whatever a command does, the upload stays well formed, flash keeps its length, and its response fits a frame of M
-- bytes. Why: M is at least 32; the serial has at most 16 bytes, read asks for no more than fits, the other results have at most five.
use mathlib.Core.Path.{◌≡◌, refl, sym}
use mathlib.Core.Bool.{true, false, ◌||◌}
use mathlib.Core.List.{List, [], ◌∷◌}
use Prim.Native.Nat.{ℕ, zero, suc, ◌+◌, ◌-◌, ◌≤◌}
use native.Mathlib.Omega.{arith}
use lib.Dec.{eqb, leb}
use lib.ListN.{length, take, drop, get_or, length-take}
use borrow.Author.Tests.{eqb-true, leb-true}
use Rattle.rules.specs.declared.kinds.Bus.{Bus}
use Rattle.rules.specs.declared.kinds.Bus.TheVariants.{I2c, Rs485}
use Rattle.rules.specs.declared.kinds.Address.TheVariants.{Own}
use Rattle.rules.specs.Profile.{Profile}
use Rattle.rules.specs.State.{State, Upload, with_address}
use Rattle.rules.specs.Frames.{reply, shortest_reply, two_bytes, number_at}
use Rattle.rules.specs.Commit.{OutsideKept}
use Rattle.rules.specs.Responses.{Response, Reply, NoReply, Acted, replying, ok, command_not_supported, invalid_arguments}
use Rattle.rules.specs.Commands.{set_address, hardware_info, serial_number, started, accepted, restarted, written, finished, readable, shown}
use Rattle.rules.specs.Commands.{address_taken, reserved, type_matches, performed, executed, tabled, length_allowed}
use Rattle.laws.proofs.StateLaws.{ProfileFacts, UploadFacts}
use Rattle.laws.proofs.CheckSumLaws.{length-sealed}
use Rattle.laws.proofs.SizeLaws.{shortest_reply-le}
use Rattle.laws.proofs.TestLaws.{by_test, &&_true}
use Rattle.laws.proofs.UploadLaws.{taken_all_kept, finalized_kept, outside_refl}

pub length-reply : (bus : Bus) (a status : ℕ) (results : List ℕ) → length (reply bus a status results) ≡ shortest_reply bus + length results
unfolding reply
length-reply I2c a status results = omega (arith, length-sealed I2c (status ∷ length results ∷ results))
length-reply Rs485 a status results = omega (arith, length-sealed Rs485 (a ∷ status ∷ length results ∷ results))

-- the response of a command fits a frame of M bytes
abbrev pub Fits : Profile → Response → Type 0
Fits p (Reply status results) = shortest_reply p.bus + length results ≤ p.longest
Fits p NoReply = Unit

-- what a command leaves: a well-formed upload, flash as long as d, a reply that fits
pub record FormedResult (p : Profile) (d : List ℕ) (a : Acted) : Type 0 where
  pub formed : UploadFacts p.page p.size a.state.upload
  pub outside : OutsideKept p d a.flash
  pub fits : Fits p a.response

-- a claim on what a command does, command by command: its code, and that its argument length is allowed
pub record Commands (p : Profile) (s : State) (code : ℕ) (args d : List ℕ) (P : Acted → Type 0) : Type 0 where
  pub unserved : P (replying s d command_not_supported [])
  pub wrong_length : P (replying s d invalid_arguments [])
  pub version : code ≡ 0x00 → length_allowed 0x00 (length args) ≡ true → P (replying s d ok (2 ∷ 2 ∷ []))
  pub address : code ≡ 0x01 → length_allowed 0x01 (length args) ≡ true → P (set_address p s args d)
  pub info : code ≡ 0x03 → length_allowed 0x03 (length args) ≡ true → P (replying s d ok (hardware_info p))
  pub serial : code ≡ 0x04 → length_allowed 0x04 (length args) ≡ true → P (serial_number p s d)
  pub start : code ≡ 0x05 → length_allowed 0x05 (length args) ≡ true → P (started s d)
  pub write : code ≡ 0x06 → length_allowed 0x06 (length args) ≡ true → P (written p s args d)
  pub finalize : code ≡ 0x07 → length_allowed 0x07 (length args) ≡ true → P (finished p s d)
  pub read : code ≡ 0x08 → length_allowed 0x08 (length args) ≡ true → P (shown p s args d)
  pub revision : code ≡ 0x09 → length_allowed 0x09 (length args) ≡ true → P (replying s d ok (p.actual ∷ []))
  pub longest : code ≡ 0x0c → length_allowed 0x0c (length args) ≡ true → P (replying s d ok (two_bytes p.longest))

pub executed_cases : (p : Profile) (s : State) (code : ℕ) (args d : List ℕ) (P : Acted → Type 0) → Commands p s code args d P
    → P (executed p s code args d)
unfolding executed performed tabled
executed_cases p s zero args d P c =
    by_test (length_allowed 0x00 (length args)) (λ h. rw h (c.version refl h)) (λ e. rw e c.wrong_length)
executed_cases p s (suc zero) args d P c =
    by_test (length_allowed 0x01 (length args)) (λ h. rw h (c.address refl h)) (λ e. rw e c.wrong_length)
executed_cases p s (suc (suc zero)) args d P c = c.unserved
executed_cases p s (suc (suc (suc zero))) args d P c =
    by_test (length_allowed 0x03 (length args)) (λ h. rw h (c.info refl h)) (λ e. rw e c.wrong_length)
executed_cases p s (suc (suc (suc (suc zero)))) args d P c =
    by_test (length_allowed 0x04 (length args)) (λ h. rw h (c.serial refl h)) (λ e. rw e c.wrong_length)
executed_cases p s (suc (suc (suc (suc (suc zero))))) args d P c =
    by_test (length_allowed 0x05 (length args)) (λ h. rw h (c.start refl h)) (λ e. rw e c.wrong_length)
executed_cases p s (suc (suc (suc (suc (suc (suc zero)))))) args d P c =
    by_test (length_allowed 0x06 (length args)) (λ h. rw h (c.write refl h)) (λ e. rw e c.wrong_length)
executed_cases p s (suc (suc (suc (suc (suc (suc (suc zero))))))) args d P c =
    by_test (length_allowed 0x07 (length args)) (λ h. rw h (c.finalize refl h)) (λ e. rw e c.wrong_length)
executed_cases p s (suc (suc (suc (suc (suc (suc (suc (suc zero)))))))) args d P c =
    by_test (length_allowed 0x08 (length args)) (λ h. rw h (c.read refl h)) (λ e. rw e c.wrong_length)
executed_cases p s (suc (suc (suc (suc (suc (suc (suc (suc (suc zero))))))))) args d P c =
    by_test (length_allowed 0x09 (length args)) (λ h. rw h (c.revision refl h)) (λ e. rw e c.wrong_length)
executed_cases p s (suc (suc (suc (suc (suc (suc (suc (suc (suc (suc zero)))))))))) args d P c = c.unserved
executed_cases p s (suc (suc (suc (suc (suc (suc (suc (suc (suc (suc (suc zero))))))))))) args d P c = c.unserved
executed_cases p s (suc (suc (suc (suc (suc (suc (suc (suc (suc (suc (suc (suc zero)))))))))))) args d P c =
    by_test (length_allowed 0x0c (length args)) (λ h. rw h (c.longest refl h)) (λ e. rw e c.wrong_length)
executed_cases p s (suc (suc (suc (suc (suc (suc (suc (suc (suc (suc (suc (suc (suc zero))))))))))))) args d P c = c.unserved
executed_cases p s (suc (suc (suc (suc (suc (suc (suc (suc (suc (suc (suc (suc (suc (suc zero)))))))))))))) args d P c = c.unserved
executed_cases p s (suc (suc (suc (suc (suc (suc (suc (suc (suc (suc (suc (suc (suc (suc (suc n))))))))))))))) args d P c = c.unserved

-- a claim on what set address does, outcome by outcome, each with the tests that lead to it
pub record Addressing (p : Profile) (s : State) (args d : List ℕ) (P : Acted → Type 0) : Type 0 where
  pub foreign : type_matches p (get_or args 1 0) ≡ false → P (record { response = NoReply; state = s; flash = d })
  pub refused : type_matches p (get_or args 1 0) ≡ true → reserved p.bus (address_taken p.bus (get_or args 0 0)) ≡ true
      → P (replying s d invalid_arguments [])
  pub taken : type_matches p (get_or args 1 0) ≡ true → reserved p.bus (address_taken p.bus (get_or args 0 0)) ≡ false
      → P (replying (with_address s (Own (address_taken p.bus (get_or args 0 0)))) d ok [])

-- each outcome, for code that made the same tests
pub set_address_outcomes : (p : Profile) (s : State) (args d : List ℕ) → Addressing p s args d (λ a. set_address p s args d ≡ a)
unfolding set_address
set_address_outcomes p s args d = record { foreign = λ e. rw e; refused = λ e r. rw (e, r); taken = λ e r. rw (e, r) }

pub set_address_cases : (p : Profile) (s : State) (args d : List ℕ) (P : Acted → Type 0) → Addressing p s args d P
    → P (set_address p s args d)
set_address_cases p s args d P c =
    let outcomes = set_address_outcomes p s args d in
    by_test (type_matches p (get_or args 1 0))
    (λ e.
    by_test (reserved p.bus (address_taken p.bus (get_or args 0 0)))
    (λ r. rw (outcomes.refused e r) (c.refused e r))
    (λ r. rw (outcomes.taken e r) (c.taken e r)))
    (λ e. rw (outcomes.foreign e) (c.foreign e))

-- an accepted write goes on, or begins anew, just at its address
pub next_restarted : (S n address : ℕ) (u : Upload) → accepted S u.next address n ≡ true → (restarted address u).next ≡ address
next_restarted S n address u e =
    let place = (&&_true (eqb address 0 || eqb address u.next) (leb (address + n) S) e).0 in
    by_test (eqb address 0) (λ z. rw z (sym (eqb-true address 0 z))) (λ z. rw z (sym (eqb-true address u.next (rw z at place))))

restarted_formed : (page S address : ℕ) (u : Upload) → UploadFacts page S u → UploadFacts page S (restarted address u)
restarted_formed page S address u formed =
    by_test (eqb address 0) (λ z. rw z (record { next_most = omega arith; waiting_most = omega arith; count_most = omega arith }))
    (λ z. rw z formed)

module _ (p : Profile) (facts : ProfileFacts p) (s : State) (formed : UploadFacts p.page p.size s.upload) (d : List ℕ)
    (room : p.offset + p.size ≤ length d) where
  -- 27 results fit any frame
  pub replying_formed_result : (status : ℕ) (results : List ℕ) → length results ≤ 27 → FormedResult p d (replying s d status results)
  replying_formed_result status results h =
      record { formed = formed; outside = outside_refl p d; fits = omega (arith, shortest_reply-le p.bus, facts.longest_least) }

  set_address_formed_result : (args : List ℕ) → FormedResult p d (set_address p s args d)
  set_address_formed_result args =
      set_address_cases p s args d (FormedResult p d)
      (record {
        foreign = λ e. record { formed = formed; outside = outside_refl p d; fits = tt };
        refused = λ e r. replying_formed_result invalid_arguments [] (omega arith);
        taken = λ e r.
            record { formed = formed; outside = outside_refl p d; fits = omega (arith, shortest_reply-le p.bus, facts.longest_least) };
      })

  serial_number_formed_result : FormedResult p d (serial_number p s d)
  serial_number_formed_result =
      by_test (eqb (length p.serial) 0) (λ e. rw e (replying_formed_result command_not_supported [] (omega arith)))
      (λ e. rw e (replying_formed_result ok p.serial (omega (arith, facts.serial_most))))

  started_formed_result : FormedResult p d (started s d)
  started_formed_result = record {
    formed = record { next_most = formed.next_most; waiting_most = omega arith; count_most = omega (arith, formed.count_most) };
    outside = outside_refl p d;
    fits = tt;
  }

  finished_formed_result : FormedResult p d (finished p s d)
  unfolding finished
  finished_formed_result =
      let k = finalized_kept p facts (record { upload = s.upload; flash = d }) room formed in
      record { formed = k.formed; outside = k.outside; fits = omega (arith, shortest_reply-le p.bus, facts.longest_least) }

  shown_formed_result : (args : List ℕ) → FormedResult p d (shown p s args d)
  unfolding shown
  shown_formed_result args =
      by_test (readable p (number_at args 0) (get_or args 2 0))
      (λ e.
      let within =
      (&&_true (leb (number_at args 0 + get_or args 2 0) p.size) (leb (get_or args 2 0) (p.longest - shortest_reply p.bus)) e
      ).1 in
      let held : length (take (get_or args 2 0) (drop (p.offset + number_at args 0) d)) ≤ get_or args 2 0 = simp length-take (omega arith) in
      rw e
      (record {
        formed = formed;
        outside = outside_refl p d;
        fits =
            omega (
              arith,
              leb-true (get_or args 2 0) (p.longest - shortest_reply p.bus) within,
              shortest_reply-le p.bus,
              facts.longest_least,
            );
      }))
      (λ e. rw e (replying_formed_result invalid_arguments [] (omega arith)))

  written_formed_result : (args : List ℕ) → FormedResult p d (written p s args d)
  unfolding written
  written_formed_result args =
      by_test (accepted p.size s.upload.next (number_at args 0) (length (drop 2 args)))
      (λ e.
      let end =
      (&&_true (eqb (number_at args 0) 0 || eqb (number_at args 0) s.upload.next)
      (leb (number_at args 0 + length (drop 2 args)) p.size) e).1 in
      let k =
      taken_all_kept p facts (record { upload = restarted (number_at args 0) s.upload; flash = d }) (drop 2 args) room
      (restarted_formed p.page p.size (number_at args 0) s.upload formed)
      (omega (
        arith,
        next_restarted p.size (length (drop 2 args)) (number_at args 0) s.upload e,
        leb-true (number_at args 0 + length (drop 2 args)) p.size end,
      )) in
      rw e (record {
        formed = k.formed;
        outside = k.outside;
        fits =
            omega (arith, shortest_reply-le p.bus, facts.longest_least);
      }))
      (λ e. rw e (replying_formed_result invalid_arguments [] (omega arith)))

  pub executed_formed_result : (code : ℕ) (args : List ℕ) → FormedResult p d (executed p s code args d)
  executed_formed_result code args =
      executed_cases p s code args d (FormedResult p d)
      (record {
        unserved = replying_formed_result command_not_supported [] (omega arith);
        wrong_length = replying_formed_result invalid_arguments [] (omega arith);
        version = λ e h. replying_formed_result ok (2 ∷ 2 ∷ []) (omega arith);
        address = λ e h. set_address_formed_result args;
        info = λ e h. replying_formed_result ok (hardware_info p) (omega arith);
        serial = λ e h. serial_number_formed_result;
        start = λ e h. started_formed_result;
        write = λ e h. written_formed_result args;
        finalize = λ e h. finished_formed_result;
        read = λ e h. shown_formed_result args;
        revision = λ e h. replying_formed_result ok (p.actual ∷ []) (omega arith);
        longest = λ e h. replying_formed_result ok (two_bytes p.longest) (omega arith);
      })
