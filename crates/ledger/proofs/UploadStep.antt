-- Write and finalize, to a board that is not running and by a call that is not refused: bytes and commits keep step by `ByteStep`, the
-- ledger reads the board's address and data by `FrameReading`, and a finalize's reply tells the ledger's count.
use mathlib.Core.Path.{◌≡◌, refl, sym, ap, ◌∙◌}
use mathlib.Core.Logic.{◌⊎◌, inl, inr}
use mathlib.Core.Bool.{Bool, true, false, cond, ◌&&◌, ◌||◌, false≢true}
use mathlib.Core.List.{List, []}
use Prim.Native.Nat.{ℕ, ◌+◌, ◌<◌, ◌≤◌}
use native.Mathlib.Omega.{arith}
use lib.Dec.{eqb, leb}
use lib.ListN.{length, drop}
use borrow.Author.Tests.{eqb-true, leb-true}
use Rattle.rules.specs.Profile.{Profile}
use Rattle.rules.specs.State.{State, fresh_upload, with_upload}
use Rattle.rules.specs.Frames.{reply, two_bytes, number_at, command_of, arguments_of}
use Rattle.rules.specs.Commit.{Progress, taken_all, finalized}
use Rattle.rules.specs.Responses.{Reply, invalid_arguments, ok}
use Rattle.rules.specs.Commands.{accepted, restarted, written, finished}
use Rattle.rules.specs.Board.{with_reply, replied, finished_call}
use Rattle.rules.specs.Numbers.{Unrefused}
use Rattle.laws.proofs.StateLaws.{unrefused_profile, unrefused_state}
use Rattle.laws.proofs.TestLaws.{by_test, &&_true}
use Rattle.ledger.specs.Ledger.{Ledger, opened, writes, joins_all, finalizes, entered, write_address, write_data}
use Rattle.ledger.specs.Ledger.{high_low}
use Rattle.ledger.proofs.LedgerLaws.{rest}
use Rattle.ledger.proofs.Consistency.{Consistent, opened_consistent, finalizes_consistent, finalizes-after-finalize}
use Rattle.ledger.proofs.CommitStep.{Agrees, Paged}
use Rattle.ledger.proofs.ByteStep.{Going, joins_all_going, joins_all_agrees, finalizes_agrees}
use Rattle.ledger.proofs.FrameReading.{reply_count, answered_reply, write_address_lem, write_data_lem, entered-reply}
use Rattle.ledger.proofs.Kept.{Keeps, keeps_last, Entered, unwritten, error_no_entry}

-- a call that is not refused, to a board that is not running
pub record Serving (p : Profile) (s : State) (d : List ℕ) (k : Ledger) : Type 0 where
  pub pages : Paged p
  pub agrees : Agrees (record { upload = s.upload; flash = d }) k
  pub going : Going p k 0

pub unrefused_serving : (p : Profile) (s : State) (d : List ℕ) (k : Ledger) (m : ℕ) → Unrefused p s (length d) m → s.running ≡ false
    → Keeps p s d k → Serving p s d k
unrefused_serving p s d k m h off i =
    let held : length s.upload.waiting ≡ length (rest k) = ap length (i.waiting_is off) in
    let page : 0 < p.page = (unrefused_profile h).page_least in
    let long : length d ≡ length k.copy = ap length i.flash_is in
    record {
      pages = record { page_pos = page; sized = (unrefused_profile h).size_paged };
      agrees = record { flash_is = i.flash_is; count_is = i.count_is; next_is = i.next_is; waiting_is = i.waiting_is off };
      going = record {
        balanced = i.balanced;
        in_page = rw (← held, ← i.next_is) (unrefused_state h).upload.waiting_most;
        fits = omega (arith, (unrefused_state h).upload.next_most, i.next_is);
        room = omega (arith, h.flash_holds, i.balanced.as_long);
      };
    }

-- what agrees and balances is kept, whatever else the state holds
agrees_keeps : (p : Profile) (s : State) (g : Progress) (k : Ledger) → Agrees g k → Consistent p k
    → Keeps p (with_upload s g.upload) g.flash k
agrees_keeps p s g k a b =
    record { balanced = b; flash_is = a.flash_is; count_is = a.count_is; next_is = a.next_is; waiting_is = λ off. a.waiting_is }

-- and the other way
pub serving_keeps : (p : Profile) (s : State) (d : List ℕ) (k : Ledger) → Serving p s d k → Keeps p s d k
serving_keeps p s d k h = agrees_keeps p s (record { upload = s.upload; flash = d }) k h.agrees h.going.balanced

-- an upload that agrees with the ledger after a reply, in a state that has the reply for its last
agrees_replied : (p : Profile) (s : State) (g : Progress) (k k' : Ledger) (r : List ℕ) → Agrees g k' → Consistent p k' → k ≡ k'
    → Keeps p (with_reply p.bus (with_upload s g.upload) r) g.flash k
agrees_replied p s g k k' r a b e = rw e (keeps_last p.bus p (with_upload s g.upload) g.flash k' r (agrees_keeps p s g k' a b))

-- finalize
pub finished_enters : (p : Profile) (s : State) (d : List ℕ) (k : Ledger) (a : ℕ) (f : List ℕ) (address : ℕ) → Serving p s d k
    → command_of p.bus f ≡ 0x07
    → Entered p k a f (finished_call p.bus address (finished p s d))
unfolding finished
finished_enters p s d k a f address h code =
    let g : Progress = finalized p (record { upload = s.upload; flash = d }) in
    let i = h.going in
    let agrees : Agrees g (finalizes p k) = finalizes_agrees p h.pages _ k i h.agrees in
    let room : p.offset + length k.accepted ≤ length k.earlier = omega (arith, i.fits, i.room) in
    let balanced = finalizes_consistent p k i.balanced (rw i.balanced.as_long at room) in
    let enters : entered p k a f 0 (reply p.bus address ok (two_bytes g.upload.count)) ≡ finalizes p k =
    entered-reply p k a f address ok (two_bytes g.upload.count) ∙ rw code in
    record {
      keeps = agrees_replied p s g _ (finalizes p k) _ agrees balanced enters;
      closes = λ some. rw enters
          (record {
            count_replied = reply_count p.bus address ok g.upload.count ∙ ap high_low agrees.count_is;
            after_finalize = finalizes-after-finalize p k i.balanced.committed_le room;
          });
      in_order =
          unwritten p k f 0 (reply p.bus address ok (two_bytes g.upload.count))
          (answered_reply p.bus 0x06 f address ok (two_bytes g.upload.count) ∙ rw code);
    }

-- write

-- an accepted write is at 0 or at next
accepted_place : (S next address n : ℕ) → accepted S next address n ≡ true → (address ≡ 0) ⊎ (address ≡ next)
accepted_place S next address n e =
    let place = (&&_true (eqb address 0 || eqb address next) (leb (address + n) S) e).0 in
    by_test (eqb address 0) (λ z. inl (eqb-true address 0 z)) (λ z. inr (eqb-true address next (rw z at place)))

-- an accepted write begins anew at 0, and goes on at next
begins_going : (p : Profile) (s : State) (d : List ℕ) (k : Ledger) (address n : ℕ) → Serving p s d k
    → accepted p.size s.upload.next address n ≡ true
    → Going p (cond (eqb address 0) (opened k.copy) k) n
begins_going p s d k address n h e = go (eqb address 0) refl e
  where
    go : (t : Bool) → eqb address 0 ≡ t → ((t || eqb address s.upload.next) && leb (address + n) p.size) ≡ true
        → Going p (cond t (opened k.copy) k) n
    go true z e = record {
      balanced = opened_consistent p k.copy;
      in_page = omega arith;
      fits = omega (arith, eqb-true address 0 z, leb-true (address + n) p.size e);
      room = rw h.going.balanced.as_long at h.going.room;
    }
    go false z e =
        let both = &&_true (eqb address s.upload.next) (leb (address + n) p.size) e in
        let at : address ≡ s.upload.next = eqb-true _ _ both.0 in
        record {
          balanced = h.going.balanced;
          in_page = h.going.in_page;
          fits = omega (arith, h.agrees.next_is, leb-true (address + n) p.size both.1);
          room = h.going.room;
        }

begins_agrees : (p : Profile) (s : State) (d : List ℕ) (k : Ledger) (address : ℕ) → Serving p s d k
    → Agrees (record { upload = restarted address s.upload; flash = d }) (cond (eqb address 0) (opened k.copy) k)
begins_agrees p s d k address h = go (eqb address 0)
  where
    go : (t : Bool) → Agrees (record { upload = cond t fresh_upload s.upload; flash = d }) (cond t (opened k.copy) k)
    go true = record { flash_is = h.agrees.flash_is; count_is = refl; next_is = refl; waiting_is = refl }
    go false = h.agrees

module _ (p : Profile) (s : State) (d : List ℕ) (k : Ledger) (a : ℕ) (f : List ℕ) (to : ℕ) (h : Serving p s d k)
    (code : command_of p.bus f ≡ 0x06) where
  accepted_enters : (address : ℕ) (bytes : List ℕ) (g : Progress) → address ≡ write_address p.bus f → bytes ≡ write_data p.bus f
      → g ≡ taken_all p (record { upload = restarted address s.upload; flash = d }) bytes
      → accepted p.size s.upload.next address (length bytes) ≡ true
      → Entered p k a f (replied p.bus to (Reply ok []) (with_upload s g.upload) g.flash)
  unfolding writes
  accepted_enters address bytes g at what made e =
      let k' : Ledger = cond (eqb address 0) (opened k.copy) k in
      let going = begins_going p s d k address (length bytes) h e in
      let agrees : Agrees g (joins_all p k' bytes) =
      rw made (joins_all_agrees p h.pages bytes _ k' going (begins_agrees p s d k address h)) in
      let balanced = (joins_all_going p h.pages bytes k' going).balanced in
      let enters : entered p k a f 0 (reply p.bus to ok []) ≡ joins_all p k' bytes =
      entered-reply p k a f to ok [] ∙ rw (code, at, what) in
      record {
        keeps = agrees_replied p s g _ (joins_all p k' bytes) _ agrees balanced enters;
        closes = λ some. absurd (false≢true (sym (answered_reply p.bus 0x07 f to ok [] ∙ rw code) ∙ some));
        in_order = λ some. rw (← at, ← h.agrees.next_is) (accepted_place p.size s.upload.next address (length bytes) e);
      }

  pub written_enters : 2 ≤ length (arguments_of p.bus f)
      → Entered p k a f (finished_call p.bus to (written p s (arguments_of p.bus f) d))
  unfolding written
  written_enters long =
      let address : ℕ = number_at (arguments_of p.bus f) 0 in
      let bytes : List ℕ = drop 2 (arguments_of p.bus f) in
      by_test (accepted p.size s.upload.next address (length bytes))
      (λ e. rw e (accepted_enters address bytes _ (write_address_lem p.bus f long) (write_data_lem p.bus f) refl e))
      (λ e. rw e (error_no_entry p k a f to invalid_arguments [] s d refl (serving_keeps p s d k h)))
