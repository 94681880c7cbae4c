-- The ledger of an upload, by the ledger's rules alone: opened on the flash before it and fed its steps, it has accepted the image over
-- that flash; and while no finalize found bytes waiting it agrees with an upload of the same bytes given at once, byte for byte.
use mathlib.Core.Path.{◌≡◌, refl, sym, ap, subst, ◌∙◌}
use mathlib.Core.Bool.{Bool, true, false, cond}
use mathlib.Core.List.{List, [], ◌∷◌, ◌++◌, append_assoc}
use Prim.Native.Nat.{ℕ, ◌+◌, ◌≤◌}
use native.Mathlib.Omega.{arith}
use native.Mathlib.Nat.{add-zero, zero-add}
use lib.Dec.{eqb, ltb}
use lib.ListN.{length, length-append}
use borrow.Author.Tests.{eqb-true}
use Rattle.rules.specs.Profile.{Profile}
use Rattle.rules.specs.Commit.{Progress, taken_all}
use Rattle.laws.proofs.CommitLaws.{taken_all-append}
use Rattle.laws.proofs.ImageLaws.{begins}
use Rattle.laws.proofs.TestLaws.{by_test, &&_true}
use Rattle.ledger.specs.Ledger.{Ledger, opened, joins_all, writes, commits, finalizes, entered, is_write, is_finalize, write_address}
use Rattle.ledger.specs.Ledger.{write_data}
use Rattle.ledger.specs.Calls.{Call, Frame, Read, Step, fed}
use Rattle.ledger.specs.Claim.{Piece, writing, pieces, follow, from_zero, joined, Every}
use Rattle.ledger.proofs.CommitStep.{Agrees, Paged}
use Rattle.ledger.proofs.ByteStep.{Going, joins_all_going, joins_all_agrees}
use Rattle.ledger.proofs.Consistency.{opened_consistent, final_counted}
use Rattle.ledger.proofs.Joined.{joins_all-joined, finalizes-accepted, finalizes_earlier}
use Rattle.finished_uploads.specs.Uploads.{resetting, fed_all}

-- an upload given at once, which the ledger agrees with
pub record AtOnce (p : Profile) (d : List ℕ) (k : Ledger) : Type 0 where
  pub going : Going p k 0
  pub agrees : Agrees (taken_all p (begins d) k.accepted) k

-- the ledger has accepted the first bytes of the image over d, and the pieces ws are to come
pub record Gathers (p : Profile) (d image : List ℕ) (ws : List Piece) (k : Ledger) : Type 0 where
  pub bytes_are : k.accepted ++ joined ws ≡ image
  pub follows : follow (length k.accepted) ws ≡ true
  pub earlier_is : k.earlier ≡ d
  -- before the first byte it is as opened
  pub unbegun : length k.accepted ≡ 0 → k ≡ opened d
  pub at_once : length k.accepted ≤ p.size → k.finals ≡ 0 → AtOnce p d k

-- the first at 0, each next at the previous end
from_zero-follow : (ws : List Piece) → from_zero ws ≡ true → follow 0 ws ≡ true
from_zero-follow [] e = refl
from_zero-follow (w ∷ ws) e = rw zero-add e

module _ (p : Profile) (pages : Paged p) (d image : List ℕ) (room : p.offset + p.size ≤ length d) where
  opened_gathers : (ws : List Piece) → from_zero ws ≡ true → joined ws ≡ image → Gathers p d image ws (opened d)
  unfolding taken_all
  opened_gathers ws order bytes = record {
    bytes_are = bytes;
    follows = from_zero-follow ws order;
    earlier_is = refl;
    unbegun = λ none. refl;
    at_once = λ fits none. record {
      going = record { balanced = opened_consistent p d; in_page = omega arith; fits = omega arith; room = room };
      agrees = record { flash_is = refl; count_is = refl; next_is = refl; waiting_is = refl };
    };
  }

  -- bytes that join
  joined_gathers : (xs : List ℕ) (ws : List Piece) (k : Ledger) → follow (length k.accepted + length xs) ws ≡ true
      → Gathers p d image (record { address = length k.accepted; bytes = xs } ∷ ws) k → Gathers p d image ws (joins_all p k xs)
  unfolding joins_all
  joined_gathers [] ws k order i = record {
    bytes_are = i.bytes_are;
    follows = rw add-zero at order;
    earlier_is = i.earlier_is;
    unbegun = i.unbegun;
    at_once = i.at_once;
  }
  joined_gathers (x ∷ xs) ws k order i =
      let bs : List ℕ = x ∷ xs in
      let j = joins_all-joined p bs k in
      let long : length (joins_all p k bs).accepted ≡ length k.accepted + length bs =
      ap length j.accepted_is ∙ length-append k.accepted bs in
      record {
        bytes_are = rw j.accepted_is (append_assoc k.accepted bs (joined ws) ∙ i.bytes_are);
        follows = rw long order;
        earlier_is = j.earlier_is ∙ i.earlier_is;
        unbegun = λ none. absurd (omega (arith, long));
        at_once = λ fits none.
            let once = i.at_once (omega (arith, long)) (sym j.finals_is ∙ none) in
            let going : Going p k (length bs) =
            record {
              balanced = once.going.balanced;
              in_page = once.going.in_page;
              fits = omega (arith, long);
              room = once.going.room;
            } in
            let all : taken_all p (taken_all p (begins d) k.accepted) bs ≡ taken_all p (begins d) (joins_all p k bs).accepted =
            sym (ap (taken_all p (begins d)) j.accepted_is ∙ taken_all-append p (begins d) k.accepted bs) in
            record {
              going = joins_all_going p pages bs k going;
              agrees = subst (λ (g : Progress). Agrees g (joins_all p k bs)) all (joins_all_agrees p pages bs _ k going once.agrees);
            };
      }

  -- an accepted write where the last ended: one at 0 finds the ledger as opened
  writes-joins : (address : ℕ) (bytes : List ℕ) (k : Ledger) → address ≡ length k.accepted → (length k.accepted ≡ 0 → k ≡ opened d)
      → writes p k address bytes ≡ joins_all p k bytes
  unfolding writes
  writes-joins address bytes k at unbegun =
      by_test (eqb address 0)
      (λ zero.
      let is : k ≡ opened d = unbegun (sym at ∙ eqb-true _ _ zero) in
      rw zero (ap (λ (l : Ledger). joins_all p l bytes) (ap (λ (l : Ledger). opened l.copy) is ∙ sym is)))
      (λ on. rw on)

  write_gathers : (w : Piece) (ws : List Piece) (k : Ledger) → Gathers p d image (w ∷ ws) k
      → Gathers p d image ws (writes p k w.address w.bytes)
  write_gathers w ws k i =
      let both = &&_true (eqb w.address (length k.accepted)) _ i.follows in
      let at : w.address ≡ length k.accepted = eqb-true _ _ both.0 in
      rw (writes-joins w.address w.bytes k at i.unbegun) (joined_gathers w.bytes ws k both.1 (rw at at i))

  -- a finalize that finds bytes waiting is counted in f; another does nothing
  finalizes_idle : (k : Ledger) → (finalizes p k).finals ≡ 0 → finalizes p k ≡ k
  unfolding finalizes commits
  finalizes_idle k none = go (ltb k.committed (length k.accepted)) none
    where
      go : (t : Bool) → (cond t (commits p (final_counted k)) k).finals ≡ 0 → cond t (commits p (final_counted k)) k ≡ k
      go true none = absurd (omega arith)
      go false none = refl

  finalizes-opened : (k : Ledger) → k ≡ opened d → finalizes p k ≡ opened d
  unfolding finalizes
  finalizes-opened k is = rw is

  finalize_gathers : (ws : List Piece) (k : Ledger) → Gathers p d image ws k → Gathers p d image ws (finalizes p k)
  finalize_gathers ws k i = record {
    bytes_are = rw (finalizes-accepted p k) i.bytes_are;
    follows = rw (finalizes-accepted p k) i.follows;
    earlier_is = finalizes_earlier p k ∙ i.earlier_is;
    unbegun = λ none. finalizes-opened k (i.unbegun (rw (finalizes-accepted p k) at none));
    at_once = λ fits none.
        let same = finalizes_idle k none in
        rw same (i.at_once (rw (finalizes-accepted p k) at fits) (rw same at none));
  }

  step_gathers : (s : Step) (c : Call) (ws : List Piece) (k : Ledger) → resetting p s c ≡ false → Gathers p d image (writing p s c ++ ws) k
      → Gathers p d image ws (fed p k c s.number s.reply)
  unfolding entered
  step_gathers s (Read a n) ws k kept i = i
  step_gathers s (Frame a f n) ws k kept i =
      rw kept (go (is_write p.bus f s.number s.reply) (is_finalize p.bus f s.number s.reply) i)
    where
      w : Piece
      w = record { address = write_address p.bus f; bytes = write_data p.bus f }

      go : (t z : Bool) → Gathers p d image (cond t (w ∷ []) [] ++ ws) k
          → Gathers p d image ws (cond t (writes p k w.address w.bytes) (cond z (finalizes p k) k))
      go true z i = write_gathers w ws k i
      go false true i = finalize_gathers ws k i
      go false false i = i

  steps_gathers : (ss : List Step) (k : Ledger) → Every (λ (s : Step). resetting p s s.call ≡ false) ss
      → Gathers p d image (pieces p ss) k → Gathers p d image [] (fed_all p k ss)
  unfolding pieces fed_all
  steps_gathers [] k kept i = i
  steps_gathers (s ∷ ss) k kept i = steps_gathers ss _ kept.1 (step_gathers s s.call (pieces p ss) k kept.0 i)

  -- the ledger after the steps of an upload
  pub upload_gathers : (ss : List Step) → Every (λ (s : Step). resetting p s s.call ≡ false) ss → from_zero (pieces p ss) ≡ true
      → joined (pieces p ss) ≡ image → Gathers p d image [] (fed_all p (opened d) ss)
  upload_gathers ss kept order bytes = steps_gathers ss (opened d) kept (opened_gathers (pieces p ss) order bytes)
