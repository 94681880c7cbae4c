-- Bytes that flash has already, accepted once more: laying the first of them over it leaves it as it is, so no commit changes the copy and
-- none counts.
use mathlib.Core.Path.{◌≡◌, refl, sym, ap, ◌∙◌}
use mathlib.Core.Bool.{Bool, true, false, cond}
use mathlib.Core.List.{List, [], ◌∷◌, ◌++◌, append_assoc}
use Prim.Native.Nat.{ℕ, ◌+◌, ◌-◌, ◌%◌, ◌≤◌}
use native.Mathlib.Omega.{arith}
use native.Mathlib.Nat.{le_refl}
use lib.Dec.{eqb, ltb}
use lib.ListN.{length, take, drop, length-append, length-drop}
use lib.Seq.{take_at, drop-append-le, drop-drop}
use Rattle.rules.specs.Profile.{Profile}
use Rattle.laws.proofs.BytesLaws.{same_self, overlay-same}
use Rattle.laws.proofs.CommitLaws.{take-drop-take}
use Rattle.ledger.specs.Ledger.{Ledger, commits, joins, joins_all, finalizes}
use Rattle.ledger.proofs.LedgerLaws.{rest, stands, Roomy, rest_room, commits-overlay}
use Rattle.ledger.proofs.Consistency.{more, length_more, final_counted}

-- flash D has the bytes bs from O on
pub record Has (p : Profile) (D bs : List ℕ) : Type 0 where
  pub room : p.offset + length bs ≤ length D
  pub there : take (length bs) (drop p.offset D) ≡ bs

-- the ledger has accepted the first of the bytes bs over D, and ys are to come
pub record Repeats (D bs ys : List ℕ) (k : Ledger) : Type 0 where
  pub copy_is : k.copy ≡ D
  pub count_is : k.count ≡ 0
  pub committed_le : k.committed ≤ length k.accepted
  pub bytes_are : k.accepted ++ ys ≡ bs

module _ (p : Profile) (D bs : List ℕ) (has : Has p D bs) where
  -- its uncommitted bytes stand in D
  rest_there : (ys : List ℕ) (k : Ledger) → Repeats D bs ys k → take (length (rest k)) (drop (p.offset + k.committed) D) ≡ rest k
  rest_there ys k r =
      let n : length k.accepted + length ys ≡ length bs = sym (length-append k.accepted ys) ∙ ap length r.bytes_are in
      let w : length (rest k) ≡ length k.accepted - k.committed = length-drop k.committed k.accepted in
      let long : length bs ≤ length (drop p.offset D) = rw length-drop (omega (arith, has.room)) in
      rw (← drop-drop k.committed p.offset D)
      (sym (take-drop-take (length (rest k)) k.committed (length bs) (drop p.offset D) long (omega (arith, r.committed_le)))
      ∙ rw (has.there, ← r.bytes_are, drop-append-le k.committed k.accepted ys r.committed_le)
      (take_at (rest k) ys (length (rest k)) refl))

  repeats_roomy : (ys : List ℕ) (k : Ledger) → Repeats D bs ys k → Roomy p k
  repeats_roomy ys k r =
      let n : length k.accepted + length ys ≡ length bs = sym (length-append k.accepted ys) ∙ ap length r.bytes_are in
      record { committed_le = r.committed_le; room = rw r.copy_is (omega (arith, has.room)) }

  -- so a commit changes nothing
  commits_repeats : (ys : List ℕ) (k : Ledger) → Repeats D bs ys k → Repeats D bs ys (commits p k)
  commits_repeats ys k r =
      let roomy = repeats_roomy ys k r in
      let stand : stands p k ≡ true = rw (r.copy_is, rest_there ys k r) (same_self (rest k)) in
      rw (commits-overlay p k roomy)
      (record {
        copy_is = overlay-same k.copy (p.offset + k.committed) (rest k) (rest_room p k roomy) stand ∙ r.copy_is;
        count_is = rw (stand, r.count_is);
        committed_le = le_refl _;
        bytes_are = r.bytes_are;
      })

  more_repeats : (b : ℕ) (ys : List ℕ) (k : Ledger) → Repeats D bs (b ∷ ys) k → Repeats D bs ys (more k b)
  more_repeats b ys k r = record {
    copy_is = r.copy_is;
    count_is = r.count_is;
    committed_le = omega (arith, r.committed_le, length_more k b);
    bytes_are = append_assoc k.accepted (b ∷ []) ys ∙ r.bytes_are;
  }

  joins_repeats : (b : ℕ) (ys : List ℕ) (k : Ledger) → Repeats D bs (b ∷ ys) k → Repeats D bs ys (joins p k b)
  unfolding joins
  joins_repeats b ys k r = go (eqb (length (more k b).accepted % p.page) 0)
    where
      go : (t : Bool) → Repeats D bs ys (cond t (commits p (more k b)) (more k b))
      go true = commits_repeats ys (more k b) (more_repeats b ys k r)
      go false = more_repeats b ys k r

  pub joins_all_repeats : (xs ys : List ℕ) (k : Ledger) → Repeats D bs (xs ++ ys) k → Repeats D bs ys (joins_all p k xs)
  unfolding joins_all
  joins_all_repeats [] ys k r = r
  joins_all_repeats (x ∷ xs) ys k r = joins_all_repeats xs ys (joins p k x) (joins_repeats x (xs ++ ys) k r)

  pub finalizes_repeats : (ys : List ℕ) (k : Ledger) → Repeats D bs ys k → Repeats D bs ys (finalizes p k)
  unfolding finalizes
  finalizes_repeats ys k r = go (ltb k.committed (length k.accepted))
    where
      go : (t : Bool) → Repeats D bs ys (cond t (commits p (final_counted k)) k)
      go true =
          commits_repeats ys (final_counted k) (record
          { copy_is = r.copy_is; count_is = r.count_is; committed_le = r.committed_le; bytes_are = r.bytes_are })
      go false = r
