-- Two parts compared at a place of flash, one behind the other, are their bytes joined compared there.
use mathlib.Core.Path.{◌≡◌, refl, sym, ap, ◌∙◌}
use mathlib.Core.Bool.{Bool, true, false, ◌&&◌}
use mathlib.Core.List.{List, [], ◌∷◌, ◌++◌}
use Prim.Native.Nat.{ℕ, ◌+◌, ◌≤◌}
use native.Mathlib.Omega.{arith}
use lib.Dec.{eqb}
use lib.ListN.{length, take, drop, length-append, length-drop}
use lib.Seq.{take-add, drop-drop, length-take-le}
use Rattle.rules.specs.Bytes.{same}

&&_assoc : (a b c : Bool) → (a && (b && c)) ≡ ((a && b) && c)
&&_assoc true b c = refl
&&_assoc false b c = refl

-- lists of which the first parts are of one length
same-append : (a b x y : List ℕ) → length a ≡ length x → same (a ++ b) (x ++ y) ≡ (same a x && same b y)
unfolding same
same-append [] b [] y e = refl
same-append [] b (v ∷ x) y e = absurd (omega arith)
same-append (u ∷ a) b [] y e = absurd (omega arith)
same-append (u ∷ a) b (v ∷ x) y e =
    ap (λ (t : Bool). eqb u v && t) (same-append a b x y (omega arith)) ∙ &&_assoc (eqb u v) (same a x) (same b y)

pub same_parts : (d : List ℕ) (at : ℕ) (xs ys : List ℕ) → at + (length xs + length ys) ≤ length d
    → same (take (length (xs ++ ys)) (drop at d)) (xs ++ ys)
    ≡ (same (take (length xs) (drop at d)) xs && same (take (length ys) (drop (at + length xs) d)) ys)
same_parts d at xs ys room =
    rw (length-append xs ys, take-add (length xs) (length ys) (drop at d), drop-drop (length xs) at d)
    (same-append (take (length xs) (drop at d)) (take (length ys) (drop (at + length xs) d)) xs ys
    (length-take-le (length xs) (drop at d) (simp length-drop (omega arith))))
