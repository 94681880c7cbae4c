-- What is kept between board and ledger from call to call, and the answers of which the ledger makes nothing: a refusal, no reply, a reply
-- that is no OK to a write or a finalize. After these neither side has changed; after a reset both begin anew.
use mathlib.Core.Path.{◌≡◌, refl, sym, ◌∙◌}
use mathlib.Core.Logic.{◌⊎◌}
use mathlib.Core.Bool.{true, false, ◌&&◌, and-false, false≢true}
use mathlib.Core.List.{List, []}
use Prim.Native.Nat.{ℕ, ◌≤◌}
use native.Mathlib.Omega.{arith}
use lib.Dec.{eqb}
use lib.ListN.{length, get_or}
use borrow.Author.Tests.{ne_eqb}
use Rattle.rules.specs.declared.kinds.Bus.{Bus}
use Rattle.rules.specs.declared.kinds.Bus.TheVariants.{I2c, Rs485}
use Rattle.rules.specs.declared.kinds.Address.{Address}
use Rattle.rules.specs.Profile.{Profile}
use Rattle.rules.specs.State.{State, fresh, with_address, with_last}
use Rattle.rules.specs.Frames.{command_of}
use Rattle.rules.specs.Responses.{Reply, NoReply}
use Rattle.rules.specs.Board.{Called, nothing, with_reply, replied, refused}
use Rattle.ledger.specs.Ledger.{Ledger, opened, entered, reset_form, is_write, is_finalize, answered_ok}
use Rattle.ledger.specs.Ledger.{offsets, write_address, count_bytes, high_low}
use Rattle.ledger.proofs.LedgerLaws.{rest}
use Rattle.ledger.proofs.Consistency.{Consistent, opened_consistent, AfterFinalize}
use Rattle.ledger.proofs.FrameReading.{answered_reply, entered-refused, entered-nothing, entered_reset, entered-reply}

-- the board's state and flash are the ledger's; a running board has lost its waiting bytes, and takes none before a reset
pub record Keeps (p : Profile) (s : State) (d : List ℕ) (k : Ledger) : Type 0 where
  pub balanced : Consistent p k
  pub flash_is : d ≡ k.copy
  pub count_is : s.upload.count ≡ k.count
  pub next_is : s.upload.next ≡ length k.accepted
  pub waiting_is : s.running ≡ false → s.upload.waiting ≡ rest k

pub fresh_keeps : (p : Profile) (d e : List ℕ) → d ≡ e → Keeps p fresh d (opened e)
fresh_keeps p d e same =
    record { balanced = opened_consistent p e; flash_is = same; count_is = refl; next_is = refl; waiting_is = λ off. refl }

-- own address and last reply do not matter
pub keeps_other : (p : Profile) (s : State) (d : List ℕ) (k : Ledger) (own : Address) (last : List ℕ) → Keeps p s d k
    → Keeps p (with_last (with_address s own) last) d k
keeps_other p s d k own last i =
    record { balanced = i.balanced; flash_is = i.flash_is; count_is = i.count_is; next_is = i.next_is; waiting_is = i.waiting_is }

pub keeps_last : (bus : Bus) (p : Profile) (s : State) (d : List ℕ) (k : Ledger) (r : List ℕ) → Keeps p s d k
    → Keeps p (with_reply bus s r) d k
keeps_last I2c p s d k r i = keeps_other p s d k s.address r i
keeps_last Rs485 p s d k r i = keeps_other p s d k s.address [] i

-- what a finalize's reply and the ledger after it have to say
pub record Closed (p : Profile) (k : Ledger) (r : List ℕ) : Type 0 where
  pub count_replied : count_bytes p.bus r ≡ high_low k.count
  pub after_finalize : AfterFinalize p k

-- an accepted write is at 0 or where the accepted bytes end
abbrev pub InOrder : Profile → Ledger → List ℕ → ℕ → List ℕ → Type 0
InOrder p k f number r =
    is_write p.bus f number r ≡ true → (write_address p.bus f ≡ 0) ⊎ (write_address p.bus f ≡ length k.accepted)

-- what is no accepted write
pub unwritten : (p : Profile) (k : Ledger) (f : List ℕ) (number : ℕ) (r : List ℕ) → is_write p.bus f number r ≡ false
    → InOrder p k f number r
unwritten p k f number r none some = absurd (false≢true (sym none ∙ some))

-- a received frame and its answer, entered
pub record Entered (p : Profile) (k : Ledger) (a : ℕ) (f : List ℕ) (c : Called) : Type 0 where
  pub keeps : Keeps p c.state c.flash (entered p k a f c.number c.reply)
  pub closes : is_finalize p.bus f c.number c.reply ≡ true → Closed p (entered p k a f c.number c.reply) c.reply
  pub in_order : InOrder p k f c.number c.reply

-- an answer that the ledger makes nothing of
no_entry : (p : Profile) (k : Ledger) (a : ℕ) (f : List ℕ) (c : Called) → entered p k a f c.number c.reply ≡ k
    → is_finalize p.bus f c.number c.reply ≡ false → is_write p.bus f c.number c.reply ≡ false
    → Keeps p c.state c.flash k → Entered p k a f c
no_entry p k a f c same no-final no_write i = record {
  keeps = rw same i;
  closes = λ some. absurd (false≢true (sym no-final ∙ some));
  in_order = unwritten p k f c.number c.reply no_write;
}

-- only number 0 answers OK
unanswered : (bus : Bus) (code : ℕ) (f : List ℕ) (n : ℕ) (r : List ℕ) → eqb n 0 ≡ false → answered_ok bus code f n r ≡ false
unanswered bus code f n r e = rw e (and-false (eqb (get_or f (offsets bus).command 0) code))

module _ (p : Profile) (k : Ledger) (a : ℕ) (f : List ℕ) where
  pub refused_no_entry : (n : ℕ) (s : State) (d : List ℕ) → 2 ≤ n → Keeps p s d k → Entered p k a f (refused n s d)
  refused_no_entry n s d h i =
      let other : eqb n 0 ≡ false = ne_eqb n 0 (λ e. omega arith) in
      no_entry p k a f (refused n s d) (entered-refused p k a f n [] h) (unanswered p.bus 0x07 f n [] other)
      (unanswered p.bus 0x06 f n [] other) i

  pub nothing_no_entry : (s : State) (d : List ℕ) → reset_form p.bus a f ≡ false → Keeps p s d k → Entered p k a f (nothing s d)
  nothing_no_entry s d e i =
      no_entry p k a f (nothing s d) (entered-nothing p k a f [] e) (unanswered p.bus 0x07 f 1 [] refl)
      (unanswered p.bus 0x06 f 1 [] refl) i

  pub reset_enters : (s : State) (d : List ℕ) → reset_form p.bus a f ≡ true → Keeps p s d k → Entered p k a f (nothing fresh d)
  reset_enters s d e i = record {
    keeps = rw (entered_reset p k a f [] e) (fresh_keeps p d k.copy i.flash_is);
    closes = λ some. absurd (false≢true (sym (unanswered p.bus 0x07 f 1 [] refl) ∙ some));
    in_order = unwritten p k f 1 [] (unanswered p.bus 0x06 f 1 [] refl);
  }

  -- a reply that is no OK to a write or a finalize
  reply_no_entry : (address status : ℕ) (results : List ℕ) (s : State) (d : List ℕ)
      → (eqb (command_of p.bus f) 0x06 && eqb status 0) ≡ false → (eqb (command_of p.bus f) 0x07 && eqb status 0) ≡ false
      → Keeps p s d k → Entered p k a f (replied p.bus address (Reply status results) s d)
  reply_no_entry address status results s d w z i =
      no_entry p k a f (replied p.bus address (Reply status results) s d)
      (entered-reply p k a f address status results ∙ rw (w, z))
      (answered_reply p.bus 0x07 f address status results ∙ z)
      (answered_reply p.bus 0x06 f address status results ∙ w)
      (keeps_last p.bus p s d k _ i)

  pub error_no_entry : (address status : ℕ) (results : List ℕ) (s : State) (d : List ℕ) → eqb status 0 ≡ false
      → Keeps p s d k → Entered p k a f (replied p.bus address (Reply status results) s d)
  error_no_entry address status results s d e i =
      let none : (code : ℕ) → (eqb (command_of p.bus f) code && eqb status 0) ≡ false =
      λ code. rw e (and-false (eqb (command_of p.bus f) code)) in
      reply_no_entry address status results s d (none 0x06) (none 0x07) i

  pub other_no_entry : (address status : ℕ) (results : List ℕ) (s : State) (d : List ℕ)
      → eqb (command_of p.bus f) 0x06 ≡ false → eqb (command_of p.bus f) 0x07 ≡ false
      → Keeps p s d k → Entered p k a f (replied p.bus address (Reply status results) s d)
  other_no_entry address status results s d w z i = reply_no_entry address status results s d (rw w) (rw z) i

  pub no_reply_no_entry : (address : ℕ) (s : State) (d : List ℕ) → reset_form p.bus a f ≡ false
      → Keeps p s d k → Entered p k a f (replied p.bus address NoReply s d)
  no_reply_no_entry address s d e i = nothing_no_entry (with_reply p.bus s []) d e (keeps_last p.bus p s d k [] i)
