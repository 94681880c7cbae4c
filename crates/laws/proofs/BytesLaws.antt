-- Laws of `same` and `overlay`: a loop that compares, bytes laid over a list, and bytes laid within a part of it. What then stands at a
-- place is in `OverlayLaws`.
use mathlib.Core.Path.{◌≡◌, refl, sym, ap, ◌∙◌}
use mathlib.Core.List.{List, [], ◌∷◌, ◌++◌, append_assoc, append-nil}
use mathlib.Core.Bool.{Bool, true, false, ◌&&◌}
use Prim.Native.Nat.{ℕ, zero, suc, ◌+◌, ◌-◌, ◌<◌, ◌≤◌}
use native.Mathlib.Omega.{arith}
use native.Mathlib.Nat.{add-zero, add_assoc, sub-zero, zero-sub, suc-sub-suc}
use native.Mathlib.Numerals.{add-one}
use lib.Dec.{eqb}
use lib.ListN.{length, get_or, take, drop, length-append, length-take, length-drop, take-append-drop, drop_of_length-le}
use lib.Seq.{drop-cons, take-add, take_at, drop_at, drop-drop, drop-append-le, length-take-le, take-take, take-nil, take_all}
use borrow.Author.Tests.{eqb-true, eq-eqb}
use Rattle.rules.specs.Bytes.{same, overlay}

-- a list of no elements
pub length-zero : (l : List ℕ) → length l ≡ 0 → l ≡ []
length-zero [] e = refl
length-zero (x ∷ xs) e = absurd (omega arith)

-- a part of a list, cut before or behind first
pub drop-take : (n m : ℕ) (l : List ℕ) → drop n (take m l) ≡ take (m - n) (drop n l)
drop-take zero m l = rw sub-zero
drop-take (suc n) zero l = rw zero-sub
drop-take (suc n) (suc m) [] = sym (take-nil (suc m - suc n))
drop-take (suc n) (suc m) (x ∷ l) = rw suc-sub-suc (drop-take n m l)

-- all of a list behind its first k
pub take_rest : (l : List ℕ) (k : ℕ) → take (length l - k) (drop k l) ≡ drop k l
take_rest l k = take_all (length l - k) (drop k l) (rw length-drop (omega arith))

-- same

pub same_self : (l : List ℕ) → same l l ≡ true
unfolding same
same_self [] = refl
same_self (x ∷ xs) = rw (eq-eqb x x refl, same_self xs)

pub same_true : (l m : List ℕ) → same l m ≡ true → l ≡ m
unfolding same
same_true [] [] e = refl
same_true [] (y ∷ ys) e = cc
same_true (x ∷ xs) [] e = cc
same_true (x ∷ xs) (y ∷ ys) e = go (same_true xs ys) (eqb x y) refl
  where
    go : (same xs ys ≡ true → xs ≡ ys) → (b : Bool) → eqb x y ≡ b → x ∷ xs ≡ y ∷ ys
    go ih true h =
        let tail : same xs ys ≡ true = rw h at e in
        cc (eqb-true x y h, ih tail)
    go ih false h = let z : false ≡ true = rw h at e in cc

-- one place further, if none so far differed
pub same_step : (so_far : Bool) (l m : List ℕ) (i : ℕ) → i < length l → i < length m
    → (so_far && same (drop i l) (drop i m)) ≡ ((so_far && eqb (get_or l i 0) (get_or m i 0)) && same (drop (i + 1) l) (drop (i + 1) m))
unfolding same
same_step true l m i hl hm = rw (add-one, drop-cons l i 0, drop-cons m i 0)
same_step false l m i hl hm = refl

-- two lists that are used up
pub same_end : (so_far : Bool) (l m : List ℕ) (i : ℕ) → length l ≤ i → length m ≤ i → (so_far && same (drop i l) (drop i m)) ≡ so_far
unfolding same
same_end true l m i hl hm = rw (drop_of_length-le l hl, drop_of_length-le m hm)
same_end false l m i hl hm = refl

-- lists of two lengths
pub same_lengths : (l m : List ℕ) → (length l ≡ length m → ⊥) → same l m ≡ false
unfolding same
same_lengths [] [] ne = absurd (ne refl)
same_lengths [] (y ∷ ys) ne = refl
same_lengths (x ∷ xs) [] ne = refl
same_lengths (x ∷ xs) (y ∷ ys) ne = go (same_lengths xs ys (λ e. ne (omega arith))) (eqb x y)
  where
    go : same xs ys ≡ false → (b : Bool) → (b && same xs ys) ≡ false
    go e true = e
    go e false = refl

-- a part that both have in front does not count
pub same_front : (p a b : List ℕ) → same (p ++ a) (p ++ b) ≡ same a b
unfolding same
same_front [] a b = refl
same_front (x ∷ p) a b = rw (eq-eqb x x refl, same_front p a b)

-- nor one that both have behind
pub same_back : (a b s : List ℕ) → length a ≡ length b → same (a ++ s) (b ++ s) ≡ same a b
unfolding same
same_back [] [] s e = same_self s
same_back [] (y ∷ b) s e = absurd (omega arith)
same_back (x ∷ a) [] s e = absurd (omega arith)
same_back (x ∷ a) (y ∷ b) s e = rw (same_back a b s (omega arith))

-- overlay

-- a list around a part of it
pub around : (d : List ℕ) (at n : ℕ) → d ≡ take at d ++ take n (drop at d) ++ drop (at + n) d
around d at n = rw (← take-add at n d, take-append-drop)

pub overlay_none : (d : List ℕ) (at : ℕ) → overlay d at [] ≡ d
unfolding overlay
overlay_none d at = simp (add-zero, append-nil, take-append-drop)

-- a list laid over all of another
pub overlay-all : (d bytes : List ℕ) → length d ≤ length bytes → overlay d 0 bytes ≡ bytes
unfolding overlay
overlay-all d bytes h =
    let past : length d ≤ 0 + length bytes = omega arith in
    rw (drop_of_length-le d past) (append-nil bytes)

module _ (d : List ℕ) (at : ℕ) (bytes : List ℕ) (fits : at + length bytes ≤ length d) where
  pub length-overlay : length (overlay d at bytes) ≡ length d
  unfolding overlay
  length-overlay = simp (length-append, length-take, length-drop) (omega arith)

  -- the overlay leaves the list as it is exactly where the part that it covers is the bytes
  pub same-overlay : same d (overlay d at bytes) ≡ same (take (length bytes) (drop at d)) bytes
  unfolding overlay
  same-overlay =
      ap (λ (l : List ℕ). same l (take at d ++ bytes ++ drop (at + length bytes) d)) (around d at (length bytes))
      ∙ rw (append_assoc (take at d) (take (length bytes) (drop at d)), append_assoc (take at d) bytes, same_front)
      (same_back _ bytes _ (simp (length-take, length-drop) (omega arith)))

  -- bytes that are there already leave the list as it is
  pub overlay-same : same (take (length bytes) (drop at d)) bytes ≡ true → overlay d at bytes ≡ d
  unfolding overlay
  overlay-same e = sym (around d at (length bytes) ∙ ap (λ (l : List ℕ). take at d ++ l ++ drop (at + length bytes) d) (same_true _ _ e))

-- two overlays, the second where the first ends
pub overlay-overlay : (d : List ℕ) (at : ℕ) (xs ys : List ℕ) → at + length xs + length ys ≤ length d
    → overlay (overlay d at xs) (at + length xs) ys ≡ overlay d at (xs ++ ys)
unfolding overlay
overlay-overlay d at xs ys h =
    let front : length (take at d ++ xs) ≡ at + length xs = simp (length-append, length-take) (omega arith) in
    rw (
      take_at (take at d ++ xs) (drop (at + length xs) d) (at + length xs) front,
      ← drop-drop (length ys) (at + length xs) (take at d ++ xs ++ drop (at + length xs) d),
      drop_at (take at d ++ xs) (drop (at + length xs) d) (at + length xs) front,
    )
    (simp (length-append, drop-drop, append_assoc, add_assoc))

-- bytes laid within a part of a list, and that part laid back
pub overlay_within : (d : List ℕ) (at n k : ℕ) (bytes : List ℕ) → at + n ≤ length d → k + length bytes ≤ n
    → overlay d at (overlay (take n (drop at d)) k bytes) ≡ overlay d (at + k) bytes
unfolding overlay
overlay_within d at n k bytes room fits =
    let inner : length (overlay (take n (drop at d)) k bytes) ≡ n =
    length-overlay (take n (drop at d)) k bytes (simp (length-take, length-drop) (omega arith))
    ∙ length-take-le n (drop at d) (simp length-drop (omega arith)) in
    let behind : drop (k + length bytes) (take n (drop at d)) ++ drop (at + n) d ≡ drop (at + k + length bytes) d =
    rw (
      ← drop-drop n at d,
      ← drop-append-le (k + length bytes) (take n (drop at d)) (drop n (drop at d)) (simp (length-take, length-drop) (omega arith)),
      take-append-drop,
      drop-drop,
      add_assoc,
    ) in
    rw (inner, take-take k n (drop at d) (omega arith), take-add at k d, ← behind) (simp append_assoc)
