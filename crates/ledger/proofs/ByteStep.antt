-- Accepted bytes: board and ledger take a byte in step and commit at the same time, since a byte ends a page where the number of accepted
-- bytes becomes a multiple of it; until then the uncommitted bytes stay within one page. Likewise a finalize.
use mathlib.Core.Path.{◌≡◌, refl, ap, ◌∙◌}
use mathlib.Core.Bool.{Bool, true, false, cond}
use mathlib.Core.List.{List, [], ◌∷◌}
use Prim.Native.Nat.{ℕ, suc, ◌+◌, ◌-◌, ◌%◌, ◌<◌, ◌≤◌}
use native.Mathlib.Omega.{arith}
use native.Mathlib.Nat.{mod-lt}
use lib.Dec.{eqb, ltb}
use lib.ListN.{length, length-drop, drop_of_length-le}
use lib.Seq.{drop-length, drop-append-le}
use borrow.Author.Tests.{eqb-true, eqb-false, ltb-false, ltb-true, eq-eqb, ne_eqb}
use Rattle.rules.specs.Profile.{Profile}
use Rattle.rules.specs.Commit.{Progress, committed, taken, taken_all, finalized}
use Rattle.laws.proofs.CommitLaws.{appended}
use Rattle.laws.proofs.UploadLaws.{suc-mod_inner}
use Rattle.ledger.specs.Ledger.{Ledger, commits, joins, joins_all, finalizes}
use Rattle.ledger.proofs.LedgerLaws.{rest}
use Rattle.laws.proofs.PageLaws.{page_ends, mod-add-sub}
use Rattle.ledger.proofs.Consistency.{Consistent, commits_consistent, more, length_more, more_consistent, more_due, final_counted}
use Rattle.ledger.proofs.CommitStep.{Agrees, Paged, Within, commit_agrees}

-- a ledger in the middle of a write, with n bytes to come
pub record Going (p : Profile) (k : Ledger) (n : ℕ) : Type 0 where
  pub balanced : Consistent p k
  pub in_page : length (rest k) ≤ length k.accepted % p.page
  pub fits : length k.accepted + n ≤ p.size
  pub room : p.offset + p.size ≤ length k.earlier

module _ (p : Profile) (pages : Paged p) where
  going_within : (k : Ledger) (n : ℕ) → Going p k n → Within p k
  going_within k n g =
      let h : length k.accepted - k.committed ≤ length k.accepted % p.page = rw (← length-drop) g.in_page in
      let part = mod-add-sub p.page (length k.accepted) k.committed pages.page_pos g.balanced.committed_le h in
      record {
        room = rw g.balanced.as_long at g.room;
        accepted_le = omega (arith, g.fits);
        committed_le = g.balanced.committed_le;
        in_page = rw length-drop (omega (arith, mod-lt (length k.accepted) pages.page_pos));
      }

  -- a byte that ends its page
  more_within : (k : Ledger) (b n : ℕ) → Going p k (suc n) → (length k.accepted + 1) % p.page ≡ 0 → Within p (more k b)
  more_within k b n g end =
      let h : length k.accepted - k.committed ≤ length k.accepted % p.page = rw (← length-drop) g.in_page in
      let part = mod-add-sub p.page (length k.accepted) k.committed pages.page_pos g.balanced.committed_le h in
      let long = length_more k b in
      record {
        room = rw g.balanced.as_long at g.room;
        accepted_le = omega (arith, g.fits);
        committed_le = omega (arith, g.balanced.committed_le);
        in_page =
            rw (length-drop, long) (omega (
              arith,
              g.balanced.committed_le,
              page_ends p.page (length k.accepted) pages.page_pos end,
            ));
      }

  -- the ledger goes on by a byte

  ended_going : (k : Ledger) (b n : ℕ) → Going p k (suc n) → (length k.accepted + 1) % p.page ≡ 0 → Going p (commits p (more k b)) n
  unfolding commits
  ended_going k b n g end =
      let long = length_more k b in
      let room : p.offset + length k.accepted + 1 ≤ length k.copy = omega (arith, g.fits, g.room, g.balanced.as_long) in
      record {
        balanced =
            commits_consistent p (more k b) (more_consistent p k b pages.page_pos g.balanced)
            (more_due p k b pages.page_pos g.balanced room end);
        in_page = rw (drop-length (more k b).accepted) (omega arith);
        fits = omega (arith, g.fits);
        room = g.room;
      }

  more_going : (k : Ledger) (b n : ℕ) → Going p k (suc n) → ((length k.accepted + 1) % p.page ≡ 0 → ⊥) → Going p (more k b) n
  more_going k b n g on =
      let long = length_more k b in
      let below = suc-mod_inner p.page (length k.accepted) pages.page_pos on in
      let part : length k.accepted - k.committed ≤ length k.accepted % p.page = rw (← length-drop) g.in_page in
      record {
        balanced = more_consistent p k b pages.page_pos g.balanced;
        in_page = rw (length-drop, long, below) (omega arith);
        fits = omega (arith, g.fits);
        room = g.room;
      }

  joins_going : (k : Ledger) (b n : ℕ) → Going p k (suc n) → Going p (joins p k b) n
  unfolding joins
  joins_going k b n g = rw (length_more k b) (go (eqb ((length k.accepted + 1) % p.page) 0) refl)
    where
      go : (t : Bool) → eqb ((length k.accepted + 1) % p.page) 0 ≡ t → Going p (cond t (commits p (more k b)) (more k b)) n
      go true e = ended_going k b n g (eqb-true _ _ e)
      go false e = more_going k b n g (eqb-false _ _ e)

  -- and the board with it

  more_agrees : (g : Progress) (k : Ledger) (b : ℕ) → k.committed ≤ length k.accepted → Agrees g k
      → Agrees (appended g (b ∷ [])) (more k b)
  more_agrees g k b le a = record {
    flash_is = a.flash_is;
    count_is = a.count_is;
    next_is = rw (length_more k b, a.next_is);
    waiting_is = rw (drop-append-le k.committed k.accepted (b ∷ []), a.waiting_is);
  }

  joins_agrees : (g : Progress) (k : Ledger) (b n : ℕ) → Going p k (suc n) → Agrees g k → Agrees (taken p g b) (joins p k b)
  unfolding joins taken
  joins_agrees g k b n j a = rw (length_more k b, ← a.next_is) (go (eqb ((g.upload.next + 1) % p.page) 0) refl)
    where
      next : Agrees (appended g (b ∷ [])) (more k b)
      next = more_agrees g k b j.balanced.committed_le a

      go : (t : Bool) → eqb ((g.upload.next + 1) % p.page) 0 ≡ t
          → Agrees (cond t (committed p (appended g (b ∷ []))) (appended g (b ∷ []))) (cond t (commits p (more k b)) (more k b))
      go true e =
          let end : (length k.accepted + 1) % p.page ≡ 0 = rw (← a.next_is) (eqb-true _ _ e) in
          commit_agrees p (appended g (b ∷ [])) (more k b) pages (more_within k b n j end) next
      go false e = next

  -- all bytes of a write

  pub joins_all_going : (bs : List ℕ) (k : Ledger) → Going p k (length bs) → Going p (joins_all p k bs) 0
  unfolding joins_all
  joins_all_going [] k g = g
  joins_all_going (b ∷ bs) k g = joins_all_going bs (joins p k b) (joins_going k b (length bs) g)

  pub joins_all_agrees : (bs : List ℕ) (g : Progress) (k : Ledger) → Going p k (length bs) → Agrees g k
      → Agrees (taken_all p g bs) (joins_all p k bs)
  unfolding joins_all taken_all
  joins_all_agrees [] g k j a = a
  joins_all_agrees (b ∷ bs) g k j a =
      joins_all_agrees bs (taken p g b) (joins p k b) (joins_going k b (length bs) j) (joins_agrees g k b (length bs) j a)

  -- finalize

  idle_agrees : (g : Progress) (k : Ledger) → length k.accepted ≤ k.committed → Agrees g k → Agrees (finalized p g) k
  unfolding finalized
  idle_agrees g k h a =
      let none : g.upload.waiting ≡ [] = a.waiting_is ∙ drop_of_length-le k.accepted h in
      rw (eq-eqb (length g.upload.waiting) 0 (ap length none)) a

  final_counted_agrees : (g : Progress) (k : Ledger) → Within p k → k.committed < length k.accepted → Agrees g k
      → Agrees (finalized p g) (commits p (final_counted k))
  unfolding finalized
  final_counted_agrees g k w some a =
      let held : length g.upload.waiting ≡ 0 → ⊥ =
      λ e. omega (arith, ap length a.waiting_is, length-drop k.committed k.accepted) in
      let w' : Within p (final_counted k) =
      record { room = w.room; accepted_le = w.accepted_le; committed_le = w.committed_le; in_page = w.in_page } in
      let a' : Agrees g (final_counted k) =
      record { flash_is = a.flash_is; count_is = a.count_is; next_is = a.next_is; waiting_is = a.waiting_is } in
      rw (ne_eqb _ _ held) (commit_agrees p g (final_counted k) pages w' a')

  -- both finalize in step
  pub finalizes_agrees : (g : Progress) (k : Ledger) → Going p k 0 → Agrees g k → Agrees (finalized p g) (finalizes p k)
  unfolding finalizes
  finalizes_agrees g k j a = go (ltb k.committed (length k.accepted)) refl
    where
      go : (t : Bool) → ltb k.committed (length k.accepted) ≡ t → Agrees (finalized p g) (cond t (commits p (final_counted k)) k)
      go true e = final_counted_agrees g k (going_within k 0 j) (ltb-true _ _ e) a
      go false e = idle_agrees g k (ltb-false _ _ e) a
