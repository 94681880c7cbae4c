-- Laws of the range rule, of the malformed-state rule and of the numbers 2 to 5: the facts that each rule stands for, as a record with a
-- name for each fact, both ways; and of `used`, the bytes in use of a buffer.
use mathlib.Core.Path.{◌≡◌, refl, ap, ◌∙◌}
use mathlib.Core.List.{List, [], ◌∷◌, ◌++◌}
use mathlib.Core.Bool.{Bool, true, false, cond, not, ◌&&◌}
use Prim.Native.Nat.{ℕ, ◌+◌, ◌-◌, ◌%◌, ◌≤◌, ◌<◌}
use native.Mathlib.Omega.{arith}
use native.Mathlib.Numerals.{add-one}
use lib.Dec.{leb, eqb}
use lib.ListN.{length, take, set, replicate, length-append, length-take, length-set, length-replicate}
use lib.Seq.{take-append-le, take_at, take-suc-set}
use borrow.Author.Tests.{leb-true, eqb-true, ltb-false, le-leb, eq-eqb, le-ltb, not-false}
use Rattle.rules.specs.declared.kinds.Bus.{Bus}
use Rattle.rules.specs.declared.kinds.Bus.TheVariants.{I2c, Rs485}
use Rattle.rules.specs.Profile.{Profile, frame_in_range, largest_page, page_in_range, paged, size_in_range, offset_in_range, hardware_in_range}
use Rattle.rules.specs.Profile.{in_range}
use Rattle.rules.specs.State.{State, Upload, fresh, used, upload_formed, reply_formed, well_formed}
use Rattle.rules.specs.Numbers.{refusal, flash_short, buffer_short, Unrefused}
use Rattle.laws.proofs.TestLaws.{by_test, &&_true}
use Rattle.laws.proofs.BytesLaws.{length-zero}

-- used

-- a buffer that is long enough has the bytes itself
pub used-take : (n : ℕ) (buffer : List ℕ) → n ≤ length buffer → used n buffer ≡ take n buffer
unfolding used
used-take n buffer h = take-append-le n buffer (replicate n 0) h

pub length-used : (n : ℕ) (buffer : List ℕ) → length (used n buffer) ≡ n
unfolding used
length-used n buffer = simp (length-take, length-append, length-replicate) (omega arith)

pub used-zero : (buffer : List ℕ) → used 0 buffer ≡ []
unfolding used
used-zero buffer = refl

-- the range rule

pub page_in_range_bounds : (page : ℕ) → page_in_range page ≡ true → (0 < page) × (page ≤ largest_page)
page_in_range_bounds page e =
    by_test (eqb page 64)
    (λ small. let is = eqb-true page 64 small in (omega arith, omega arith))
    (λ other. let is = eqb-true page largest_page (rw other at e) in (omega arith, omega arith))

pub record ProfileFacts (p : Profile) : Type 0 where
  pub longest_least : 32 ≤ p.longest
  pub longest_most : p.longest ≤ 256
  pub page_in_range_holds : page_in_range p.page ≡ true
  pub page_least : 0 < p.page
  pub page_most : p.page ≤ largest_page
  pub size_paged : p.size % p.page ≡ 0
  pub size_least : p.page ≤ p.size
  pub size_most : p.size ≤ 65472
  pub offset_paged : p.offset % p.page ≡ 0
  pub offset_most : p.offset ≤ 65472
  pub hardware_least : 1 ≤ p.hardware
  pub hardware_most : p.hardware ≤ 255
  pub serial_most : length p.serial ≤ 16

pub in_range_facts : (p : Profile) → in_range p ≡ true → ProfileFacts p
unfolding in_range
in_range_facts p e =
    let frame = &&_true (frame_in_range p.longest) _ e in
    let page = &&_true (page_in_range p.page) _ frame.1 in
    let size = &&_true (size_in_range p.page p.size) _ page.1 in
    let offset = &&_true (offset_in_range p.page p.offset) _ size.1 in
    let hardware = &&_true (hardware_in_range p.hardware) _ offset.1 in
    let frames = &&_true (leb 32 p.longest) _ frame.0 in
    let sizes = &&_true (paged p.page p.size) _ size.0 in
    let within = &&_true (leb p.page p.size) _ sizes.1 in
    let offsets = &&_true (paged p.page p.offset) _ offset.0 in
    let types = &&_true (leb 1 p.hardware) _ hardware.0 in
    record {
      longest_least = leb-true _ _ frames.0;
      longest_most = leb-true _ _ frames.1;
      page_in_range_holds = page.0;
      page_least = (page_in_range_bounds p.page page.0).0;
      page_most = (page_in_range_bounds p.page page.0).1;
      size_paged = eqb-true _ _ sizes.0;
      size_least = leb-true _ _ within.0;
      size_most = leb-true _ _ within.1;
      offset_paged = eqb-true _ _ offsets.0;
      offset_most = leb-true _ _ offsets.1;
      hardware_least = leb-true _ _ types.0;
      hardware_most = leb-true _ _ types.1;
      serial_most = leb-true _ _ hardware.1;
    }

-- the malformed-state rule

pub record UploadFacts (page S : ℕ) (u : Upload) : Type 0 where
  pub next_most : u.next ≤ S
  pub waiting_most : length u.waiting ≤ u.next % page
  pub count_most : u.count ≤ u.next - length u.waiting

pub upload_formed_facts : (page S : ℕ) (u : Upload) → upload_formed page S u ≡ true → UploadFacts page S u
unfolding upload_formed
upload_formed_facts page S u e =
    let next = &&_true (leb u.next S) _ e in
    let waiting = &&_true (leb (length u.waiting) (u.next % page)) _ next.1 in
    record { next_most = leb-true _ _ next.0; waiting_most = leb-true _ _ waiting.0; count_most = leb-true _ _ waiting.1 }

pub facts_upload_formed : (page S : ℕ) (u : Upload) → UploadFacts page S u → upload_formed page S u ≡ true
unfolding upload_formed
facts_upload_formed page S u f = rw (le-leb _ _ f.next_most, le-leb _ _ f.waiting_most, le-leb _ _ f.count_most)

-- a last reply is at most M long, and there is none on RS485
pub record ReplyFacts (bus : Bus) (M : ℕ) (last : List ℕ) : Type 0 where
  pub last_most : length last ≤ M
  pub last_none : bus ≡ Rs485 → last ≡ []

pub reply_formed_facts : (bus : Bus) (M : ℕ) (last : List ℕ) → reply_formed bus M last ≡ true → ReplyFacts bus M last
reply_formed_facts I2c M last e = record { last_most = leb-true _ _ e; last_none = λ other. cc }
reply_formed_facts Rs485 M last e =
    let parts = &&_true (leb (length last) M) _ e in
    record { last_most = leb-true _ _ parts.0; last_none = λ same. length-zero last (eqb-true _ _ parts.1) }

pub facts_reply_formed : (bus : Bus) (M : ℕ) (last : List ℕ) → ReplyFacts bus M last → reply_formed bus M last ≡ true
facts_reply_formed I2c M last f = le-leb _ _ f.last_most
facts_reply_formed Rs485 M last f = rw (le-leb _ _ f.last_most, eq-eqb _ _ (ap length (f.last_none refl)))

pub record StateFacts (p : Profile) (s : State) : Type 0 where
  pub upload : UploadFacts p.page p.size s.upload
  pub reply : ReplyFacts p.bus p.longest s.last

pub well_formed_facts : (p : Profile) (s : State) → well_formed p s ≡ true → StateFacts p s
unfolding well_formed
well_formed_facts p s e =
    let parts = &&_true (upload_formed p.page p.size s.upload) _ e in
    record { upload = upload_formed_facts _ _ _ parts.0; reply = reply_formed_facts p.bus _ _ parts.1 }

pub facts_well_formed : (p : Profile) (s : State) → StateFacts p s → well_formed p s ≡ true
unfolding well_formed
facts_well_formed p s f =
    rw (facts_upload_formed p.page p.size s.upload f.upload, facts_reply_formed p.bus p.longest s.last f.reply)

-- the fresh board is well formed, whatever the profile
pub fresh-well_formed : (p : Profile) → well_formed p fresh ≡ true
fresh-well_formed p =
    facts_well_formed p fresh
    (record {
      upload = record { next_most = omega arith; waiting_most = omega arith; count_most = omega arith };
      reply = record { last_most = omega arith; last_none = λ rs485. refl };
    })

-- the numbers 2 to 5

-- the facts of profile and state where none of them applies
pub unrefused_profile : {p : Profile} {s : State} {n m : ℕ} → Unrefused p s n m → ProfileFacts p
unrefused_profile {p} u = in_range_facts p u.in_range_holds

pub unrefused_state : {p : Profile} {s : State} {n m : ℕ} → Unrefused p s n m → StateFacts p s
unrefused_state {p} {s} u = well_formed_facts p s u.well_formed_holds

cond-zero : (b : Bool) (k x : ℕ) → 0 < k → cond b k x ≡ 0 → (b ≡ false) × (x ≡ 0)
cond-zero true k x h e = absurd (omega arith)
cond-zero false k x h e = (refl, e)

pub refusal_unrefused : (p : Profile) (s : State) (n m : ℕ) → refusal p s n m ≡ 0 → Unrefused p s n m
unfolding refusal
refusal_unrefused p s n m e =
    let two = cond-zero (not (in_range p)) 2 _ (omega arith) e in
    let three = cond-zero (flash_short p n) 3 _ (omega arith) two.1 in
    let four = cond-zero (not (well_formed p s)) 4 _ (omega arith) three.1 in
    let five = cond-zero (buffer_short p m) 5 0 (omega arith) four.1 in
    record {
      in_range_holds = not-false (in_range p) two.0;
      flash_holds = ltb-false _ _ three.0;
      well_formed_holds = not-false (well_formed p s) four.0;
      buffer_holds = ltb-false _ _ five.0;
    }

pub unrefused_refusal : (p : Profile) (s : State) (n m : ℕ) → in_range p ≡ true → well_formed p s ≡ true → p.offset + p.size ≤ n
    → p.longest ≤ m
    → refusal p s n m ≡ 0
unfolding refusal
unrefused_refusal p s n m range formed flash buffer = rw (range, le-ltb _ _ flash, formed, le-ltb _ _ buffer)
