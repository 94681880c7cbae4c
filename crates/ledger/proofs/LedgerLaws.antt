-- Laws of the ledger's own way to lay bytes: it is the overlay, and `unequal` is the opposite of `same`, so a commit of the ledger is one
-- overlay.
use mathlib.Core.Path.{◌≡◌, refl, ap, ◌∙◌}
use mathlib.Core.Bool.{Bool, true, false, cond, not, ◌||◌, ◌&&◌}
use mathlib.Core.List.{List, [], ◌∷◌}
use Prim.Native.Nat.{ℕ, suc, ◌+◌, ◌≤◌}
use native.Mathlib.Omega.{arith}
use native.Mathlib.Numerals.{add-one}
use lib.Dec.{eqb}
use lib.ListN.{length, take, drop, set, length-drop}
use lib.Seq.{sets, sets-eq}
use Rattle.rules.specs.Bytes.{same, overlay}
use Rattle.rules.specs.Profile.{Profile}
use Rattle.laws.proofs.BytesLaws.{same-overlay}
use Rattle.laws.proofs.CommitLaws.{raise}
use Rattle.ledger.specs.Ledger.{Ledger, lay, unequal, commits}

-- laying

lay_sets : (bs d : List ℕ) (at : ℕ) → lay d at bs ≡ sets d at bs
lay_sets [] d at = refl
lay_sets (b ∷ bs) d at = rw add-one (lay_sets bs (set d at b) (suc at))

lay-overlay : (bs d : List ℕ) (at : ℕ) → at + length bs ≤ length d → lay d at bs ≡ overlay d at bs
unfolding overlay
lay-overlay bs d at fits = lay_sets bs d at ∙ sets-eq bs d at fits

not_and : (a b : Bool) → (not a || not b) ≡ not (a && b)
not_and true b = refl
not_and false b = refl

unequal-same : (l m : List ℕ) → unequal l m ≡ not (same l m)
unfolding same
unequal-same [] [] = refl
unequal-same [] (y ∷ ys) = refl
unequal-same (x ∷ xs) [] = refl
unequal-same (x ∷ xs) (y ∷ ys) = rw (unequal-same xs ys) (not_and (eqb x y) (same xs ys))

-- the bytes that are not committed
abbrev pub rest : Ledger → List ℕ
rest k = drop k.committed k.accepted

-- they stand in the flash copy already
abbrev pub stands : Profile → Ledger → Bool
stands p k = same (take (length (rest k)) (drop (p.offset + k.committed) k.copy)) (rest k)

-- all accepted bytes have room in the flash copy, and no more are committed
pub record Roomy (p : Profile) (k : Ledger) : Type 0 where
  pub committed_le : k.committed ≤ length k.accepted
  pub room : p.offset + length k.accepted ≤ length k.copy

-- where they reach to
pub rest_room : (p : Profile) (k : Ledger) → Roomy p k → p.offset + k.committed + length (rest k) ≤ length k.copy
rest_room p k r = simp length-drop (omega (arith, r.committed_le, r.room))

-- a ledger with all committed, its count raised by n
abbrev pub all_committed : Profile → Ledger → ℕ → Ledger
all_committed p k n = record {
  copy = overlay k.copy (p.offset + k.committed) (rest k);
  earlier = k.earlier;
  accepted = k.accepted;
  committed = length k.accepted;
  count = k.count + n;
  finals = k.finals;
}

cond-raise : (b : Bool) → cond (not b) 1 0 ≡ raise b
cond-raise true = refl
cond-raise false = refl

-- it counts where the bytes do not stand there already
unequal-raise : (p : Profile) (k : Ledger) → Roomy p k
    → cond (unequal k.copy (overlay k.copy (p.offset + k.committed) (rest k))) 1 0 ≡ raise (stands p k)
unequal-raise p k r =
    rw (unequal-same, same-overlay k.copy (p.offset + k.committed) (rest k) (rest_room p k r)) (cond-raise (stands p k))

-- a ledger's commit as one overlay
pub commits-overlay : (p : Profile) (k : Ledger) → Roomy p k → commits p k ≡ all_committed p k (raise (stands p k))
unfolding commits
commits-overlay p k r =
    rw (lay-overlay (rest k) k.copy (p.offset + k.committed) (rest_room p k r)) (ap (all_committed p k) (unequal-raise p k r))
