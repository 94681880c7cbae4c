-- The tracker of the past, by the number that a call answers: which frames and answers leave the past as it is.
use mathlib.Core.Path.{◌≡◌, refl, ◌∙◌}
use mathlib.Core.Bool.{true, false, cond, not, ◌&&◌, and-true, and-false, and_assoc}
use mathlib.Core.List.{List, []}
use Prim.Native.Nat.{ℕ, ◌+◌, ◌≤◌}
use native.Mathlib.Omega.{arith}
use lib.Dec.{eqb}
use lib.ListN.{length, get_or}
use borrow.Author.Tests.{ne_eqb}
use Rattle.rules.specs.declared.kinds.Bus.{Bus}
use Rattle.rules.specs.declared.kinds.Address.TheVariants.{Own}
use Rattle.rules.specs.Profile.{Profile}
use Rattle.rules.specs.State.{State}
use Rattle.rules.specs.Frames.{reply, command_of, arguments_of, reset_frame, reset_address_frame, is_general}
use Rattle.rules.specs.Responses.{ok}
use Rattle.rules.specs.Commands.{address_taken}
use Rattle.rules.specs.Board.{with_reply}
use Rattle.laws.proofs.BoardLaws.{with_reply_kept}
use Rattle.ledger.specs.Ledger.{offsets, answered_ok, write_address, write_data}
use Rattle.ledger.proofs.FrameReading.{answered_reply}
use Rattle.demands.specs.Past.{Past, past_of, well_framed, after_frame}

-- the last reply is not seen
pub past_of_with_reply : (bus : Bus) (s : State) (r : List ℕ) → past_of (with_reply bus s r) ≡ past_of s
past_of_with_reply = with_reply_kept past_of (λ s l. refl)

-- only number 0 answers OK
answered_ok_other : (bus : Bus) (code : ℕ) (f : List ℕ) (number : ℕ) (r : List ℕ) → eqb number 0 ≡ false
    → answered_ok bus code f number r ≡ false
answered_ok_other bus code f number r e = rw e (and-false (eqb (get_or f (offsets bus).command 0) code))

-- the tracker, by the number answered

-- 1, where it is none of the two general calls and no start
pub after_silence : (p : Profile) (past : Past) (a : ℕ) (f r : List ℕ) → is_general p.bus a f (reset_frame p.bus) ≡ false
    → (not past.running && is_general p.bus a f (reset_address_frame p.bus)) ≡ false
    → (well_framed p past a f && eqb (command_of p.bus f) 0x05) ≡ false → after_frame p past a f 1 r ≡ past
unfolding after_frame
after_silence p past a f r no_reset no_address no_start =
    rw (
      no_reset,
      and-true (is_general p.bus a f (reset_address_frame p.bus)),
      no_address,
      ← and_assoc (well_framed p past a f) (eqb (command_of p.bus f) 0x05) (eqb (length (arguments_of p.bus f)) 0 && true),
      no_start,
      answered_ok_other p.bus 0x01 f 1 r refl,
      answered_ok_other p.bus 0x06 f 1 r refl,
    )

-- not 1: only an OK tells something
after-answer : (p : Profile) (past : Past) (a : ℕ) (f : List ℕ) (number : ℕ) (r : List ℕ) → eqb number 1 ≡ false
    → after_frame p past a f number r
    ≡ cond (answered_ok p.bus 0x01 f number r)
    (record { running = past.running; address = Own (address_taken p.bus (get_or (arguments_of p.bus f) 0 0)); next = past.next })
    (cond (answered_ok p.bus 0x06 f number r)
    (record { running = past.running; address = past.address; next = write_address p.bus f + length (write_data p.bus f) })
    past)
unfolding after_frame
after-answer p past a f number r e = simp (e, and-false)

pub after-refusal : (p : Profile) (past : Past) (a : ℕ) (f : List ℕ) (number : ℕ) (r : List ℕ) → 2 ≤ number
    → after_frame p past a f number r ≡ past
after-refusal p past a f number r h =
    let not-0 : eqb number 0 ≡ false = ne_eqb number 0 (λ e. omega arith) in
    let not-1 : eqb number 1 ≡ false = ne_eqb number 1 (λ e. omega arith) in
    after-answer p past a f number r not-1
    ∙ rw (answered_ok_other p.bus 0x01 f number r not-0, answered_ok_other p.bus 0x06 f number r not-0)

-- a reply that is no OK to set address or write
pub after-reply : (p : Profile) (past : Past) (a : ℕ) (f : List ℕ) (to status : ℕ) (results : List ℕ)
    → (eqb (command_of p.bus f) 0x01 && eqb status 0) ≡ false → (eqb (command_of p.bus f) 0x06 && eqb status 0) ≡ false
    → after_frame p past a f 0 (reply p.bus to status results) ≡ past
after-reply p past a f to status results no_address no_write =
    after-answer p past a f 0 (reply p.bus to status results) refl
    ∙ rw (answered_reply p.bus 0x01 f to status results, answered_reply p.bus 0x06 f to status results, no_address, no_write)

-- OK to set address, and to a write

pub after_address : (p : Profile) (past : Past) (a : ℕ) (f : List ℕ) (to : ℕ) → command_of p.bus f ≡ 0x01
    → after_frame p past a f 0 (reply p.bus to ok [])
    ≡ record { running = past.running; address = Own (address_taken p.bus (get_or (arguments_of p.bus f) 0 0)); next = past.next }
after_address p past a f to is = after-answer p past a f 0 (reply p.bus to ok []) refl ∙ rw (answered_reply p.bus 0x01 f to ok [], is)

pub after_write : (p : Profile) (past : Past) (a : ℕ) (f : List ℕ) (to : ℕ) → command_of p.bus f ≡ 0x06
    → after_frame p past a f 0 (reply p.bus to ok [])
    ≡ record { running = past.running; address = past.address; next = write_address p.bus f + length (write_data p.bus f) }
after_write p past a f to is =
    after-answer p past a f 0 (reply p.bus to ok []) refl
    ∙ rw (answered_reply p.bus 0x01 f to ok [], answered_reply p.bus 0x06 f to ok [], is)
