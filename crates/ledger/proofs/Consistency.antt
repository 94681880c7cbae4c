-- What is true of a ledger however its bytes came: the committed bytes stand over the earlier copy, and the count is within its bounds. A
-- commit with something to commit and room keeps it (two overlays, the second where the first ends), and so do a byte and a finalize.
use mathlib.Core.Path.{◌≡◌, refl, sym, ap, ◌∙◌}
use mathlib.Core.Bool.{Bool, true, false, cond}
use mathlib.Core.List.{List, [], ◌∷◌, ◌++◌}
use Prim.Native.Nat.{ℕ, ◌+◌, ◌/◌, ◌%◌, ◌<◌, ◌≤◌}
use native.Mathlib.Omega.{arith}
use native.Mathlib.Nat.{le_refl}
use lib.Dec.{ltb}
use lib.ListN.{length, take, length-append, length-drop, take-append-drop}
use lib.Seq.{length-take-le, take-append-le, take-length}
use borrow.Author.Tests.{ltb-true, ltb-false}
use Rattle.rules.specs.Bytes.{overlay}
use Rattle.rules.specs.Profile.{Profile}
use Rattle.laws.proofs.BytesLaws.{overlay-overlay, length-overlay, overlay_none}
use Rattle.laws.proofs.CommitLaws.{raise-le}
use Rattle.ledger.specs.Ledger.{Ledger, opened, commits, finalizes}
use Rattle.ledger.proofs.LedgerLaws.{rest, stands, Roomy, rest_room, commits-overlay}
use Rattle.laws.proofs.PageLaws.{div-suc-le, div-suc_end}

-- what is true of a ledger however its bytes came
pub record Consistent (p : Profile) (k : Ledger) : Type 0 where
  pub committed_le : k.committed ≤ length k.accepted
  -- the committed bytes stand over the earlier copy, and nothing else changed
  pub copy_is : k.copy ≡ overlay k.earlier p.offset (take k.committed k.accepted)
  pub as_long : length k.earlier ≡ length k.copy
  -- each commit that counted used up a byte, and a full page or a finalize
  pub count_le : k.count ≤ k.committed
  pub pages_le : k.count ≤ length k.accepted / p.page + k.finals

pub opened_consistent : (p : Profile) (d : List ℕ) → Consistent p (opened d)
opened_consistent p d = record {
  committed_le = le_refl _;
  copy_is = sym (overlay_none d p.offset);
  as_long = refl;
  count_le = le_refl _;
  pages_le = omega arith;
}

-- what a commit asks, so that it balances: something to commit, room for it, and a page or a finalize more than are counted
pub record Due (p : Profile) (k : Ledger) : Type 0 where
  pub some_rest : k.committed < length k.accepted
  pub room : p.offset + length k.accepted ≤ length k.copy
  pub pages_lt : k.count < length k.accepted / p.page + k.finals

due_roomy : (p : Profile) (k : Ledger) → Due p k → Roomy p k
due_roomy p k u = record { committed_le = omega (arith, u.some_rest); room = u.room }

-- the rest laid behind the committed bytes is all accepted bytes laid
rest-laid : (p : Profile) (k : Ledger) → Consistent p k → Due p k
    → overlay k.copy (p.offset + k.committed) (rest k) ≡ overlay k.earlier p.offset (take (length k.accepted) k.accepted)
rest-laid p k i u =
    let front : length (take k.committed k.accepted) ≡ k.committed = length-take-le k.committed k.accepted i.committed_le in
    ap (λ (d : List ℕ). overlay d (p.offset + k.committed) (rest k)) i.copy_is
    ∙ ap (λ (n : ℕ). overlay (overlay k.earlier p.offset (take k.committed k.accepted)) (p.offset + n) (rest k)) (sym front)
    ∙ overlay-overlay k.earlier p.offset (take k.committed k.accepted) (rest k)
    (rw front (simp length-drop (omega (arith, u.some_rest, u.room, i.as_long))))
    ∙ rw (take-append-drop, take-length)

pub commits_consistent : (p : Profile) (k : Ledger) → Consistent p k → Due p k → Consistent p (commits p k)
commits_consistent p k i u =
    let r = due_roomy p k u in
    let long : length (overlay k.copy (p.offset + k.committed) (rest k)) ≡ length k.copy = length-overlay _ _ _ (rest_room p k r) in
    let one = raise-le (stands p k) in
    rw (commits-overlay p k r)
    (record {
      committed_le = le_refl _;
      copy_is = rest-laid p k i u;
      as_long = rw long i.as_long;
      count_le = omega (arith, u.some_rest, i.count_le);
      pages_le = omega (arith, u.pages_lt);
    })

-- a ledger with one accepted byte more
abbrev pub more : Ledger → ℕ → Ledger
more k b =
    record {
      copy = k.copy;
      earlier = k.earlier;
      accepted = k.accepted ++ (b ∷ []);
      committed = k.committed;
      count = k.count;
      finals = k.finals;
    }

pub length_more : (k : Ledger) (b : ℕ) → length (more k b).accepted ≡ length k.accepted + 1
length_more k b = length-append k.accepted (b ∷ [])

-- one byte that joins

module _ (p : Profile) (k : Ledger) (b : ℕ) (pos : 0 < p.page) (i : Consistent p k) where
  pub more_consistent : Consistent p (more k b)
  more_consistent =
      let long = length_more k b in
      record {
        committed_le = omega (arith, i.committed_le);
        copy_is = rw (take-append-le k.committed k.accepted (b ∷ []) i.committed_le) i.copy_is;
        as_long = i.as_long;
        count_le = i.count_le;
        pages_le = rw long (omega (arith, i.pages_le, div-suc-le p.page (length k.accepted) pos));
      }

  pub more_due : p.offset + length k.accepted + 1 ≤ length k.copy → (length k.accepted + 1) % p.page ≡ 0 → Due p (more k b)
  more_due room end =
      let long = length_more k b in
      record {
        some_rest = omega (arith, i.committed_le);
        room = omega arith;
        pages_lt = rw long (omega (arith, i.pages_le, div-suc_end p.page (length k.accepted) pos end));
      }

-- a finalize that finds bytes not committed

abbrev pub final_counted : Ledger → Ledger
final_counted k =
    record {
      copy = k.copy;
      earlier = k.earlier;
      accepted = k.accepted;
      committed = k.committed;
      count = k.count;
      finals =
          k.finals + 1;
    }

final_counted_consistent : (p : Profile) (k : Ledger) → Consistent p k → Consistent p (final_counted k)
final_counted_consistent p k i =
    record {
      committed_le = i.committed_le;
      copy_is = i.copy_is;
      as_long = i.as_long;
      count_le = i.count_le;
      pages_le =
          omega (arith, i.pages_le);
    }

pub finalizes_consistent : (p : Profile) (k : Ledger) → Consistent p k → p.offset + length k.accepted ≤ length k.copy
    → Consistent p (finalizes p k)
unfolding finalizes
finalizes_consistent p k i room = go (ltb k.committed (length k.accepted)) refl
  where
    go : (t : Bool) → ltb k.committed (length k.accepted) ≡ t → Consistent p (cond t (commits p (final_counted k)) k)
    go true e =
        commits_consistent p (final_counted k) (final_counted_consistent p k i)
        (record { some_rest = ltb-true _ _ e; room = room; pages_lt = omega (arith, i.pages_le) })
    go false e = i

-- after a finalize all is committed, and there is room for it
pub record AfterFinalize (p : Profile) (k : Ledger) : Type 0 where
  pub all_committed_holds : k.committed ≡ length k.accepted
  pub room : p.offset + length k.accepted ≤ length k.earlier

pub finalizes-after-finalize : (p : Profile) (k : Ledger) → k.committed ≤ length k.accepted
    → p.offset + length k.accepted ≤ length k.earlier
    → AfterFinalize p (finalizes p k)
unfolding finalizes commits
finalizes-after-finalize p k le room = go (ltb k.committed (length k.accepted)) refl
  where
    go : (t : Bool) → ltb k.committed (length k.accepted) ≡ t → AfterFinalize p (cond t (commits p (final_counted k)) k)
    go true e = record { all_committed_holds = refl; room = room }
    go false e = record { all_committed_holds = omega (arith, ltb-false); room = room }
