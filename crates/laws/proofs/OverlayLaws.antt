-- What stands at a place of an overlay: the bytes laid, and around them what stood there before.
use mathlib.Core.Path.{◌≡◌, refl, sym, ap, ◌∙◌}
use mathlib.Core.Logic.{◌⊎◌, inl, inr}
use mathlib.Core.List.{List, ◌++◌, append_assoc}
use Prim.Native.Nat.{ℕ, ◌+◌, ◌-◌, ◌<◌, ◌≤◌}
use native.Mathlib.Omega.{arith}
use lib.ListN.{length, get_or, take, drop, length-append, length-drop, get_or-append}
use lib.Seq.{take_at, drop_at, drop-drop, length-take-le, take-append-le, drop-append-le, drop-append-add}
use lib.Seq.{get_or-append-add, get_or-take, get_or-drop}
use Rattle.rules.specs.Bytes.{overlay}

module _ (d : List ℕ) (at : ℕ) (bytes : List ℕ) (fits : at + length bytes ≤ length d) where
  front : length (take at d) ≡ at
  front = length-take-le at d (omega arith)

  both : length (take at d ++ bytes) ≡ at + length bytes
  both = length-append (take at d) bytes ∙ ap (λ (n : ℕ). n + length bytes) front

  -- the bytes laid
  pub take-overlay : take (length bytes) (drop at (overlay d at bytes)) ≡ bytes
  unfolding overlay
  take-overlay =
      rw (append_assoc (take at d) bytes (drop (at + length bytes) d), drop_at (take at d) (bytes ++ drop (at + length bytes) d) at front)
      (take_at bytes (drop (at + length bytes) d) (length bytes) refl)

  -- a part of them
  pub part-overlay : (k n : ℕ) → k + n ≤ length bytes → take n (drop (at + k) (overlay d at bytes)) ≡ take n (drop k bytes)
  unfolding overlay
  part-overlay k n within =
      let behind : List ℕ = drop (at + length bytes) d in
      let moved : drop (at + k) (take at d ++ (bytes ++ behind)) ≡ drop k (bytes ++ behind) =
      ap (λ (m : ℕ). drop (m + k) (take at d ++ (bytes ++ behind))) (sym front) ∙ drop-append-add (take at d) (bytes ++ behind) k in
      rw (append_assoc (take at d) bytes behind, moved, drop-append-le k bytes behind (omega arith))
      (take-append-le n (drop k bytes) behind (simp length-drop (omega arith)))

  -- the list behind them
  pub drop-overlay : (k : ℕ) → at + length bytes ≤ k → drop k (overlay d at bytes) ≡ drop k d
  unfolding overlay
  drop-overlay k past =
      let place : k ≡ length (take at d ++ bytes) + (k - (at + length bytes)) = omega (arith, both) in
      let behind : at + length bytes + (k - (at + length bytes)) ≡ k = omega arith in
      ap (λ (n : ℕ). drop n (take at d ++ bytes ++ drop (at + length bytes) d)) place
      ∙ drop-append-add (take at d ++ bytes) (drop (at + length bytes) d) (k - (at + length bytes))
      ∙ drop-drop (k - (at + length bytes)) (at + length bytes) d
      ∙ ap (λ (n : ℕ). drop n d) behind

  -- a byte of them
  pub get_or-overlay_inside : (i : ℕ) → i < length bytes → get_or (overlay d at bytes) (at + i) 0 ≡ get_or bytes i 0
  unfolding overlay
  get_or-overlay_inside i h =
      get_or-append (take at d ++ bytes) (drop (at + length bytes) d) 0 (at + i) (omega (arith, both))
      ∙ ap (λ (n : ℕ). get_or (take at d ++ bytes) (n + i) 0) (sym front)
      ∙ get_or-append-add (take at d) bytes i 0

  -- a byte before them, and one behind
  get_or-overlay-before : (i : ℕ) → i < at → get_or (overlay d at bytes) i 0 ≡ get_or d i 0
  unfolding overlay
  get_or-overlay-before i below =
      rw (append_assoc (take at d) bytes (drop (at + length bytes) d))
      (get_or-append (take at d) _ 0 i (omega (arith, front)) ∙ get_or-take at d i 0 below)

  get_or-overlay_behind : (i : ℕ) → at + length bytes ≤ i → get_or (overlay d at bytes) i 0 ≡ get_or d i 0
  unfolding overlay
  get_or-overlay_behind i above =
      let place : i ≡ length (take at d ++ bytes) + (i - (at + length bytes)) = omega (arith, both) in
      let back : at + length bytes + (i - (at + length bytes)) ≡ i = omega arith in
      ap (λ (m : ℕ). get_or ((take at d ++ bytes) ++ drop (at + length bytes) d) m 0) place
      ∙ get_or-append-add (take at d ++ bytes) (drop (at + length bytes) d) (i - (at + length bytes)) 0
      ∙ get_or-drop (at + length bytes) d (i - (at + length bytes)) 0
      ∙ ap (λ (m : ℕ). get_or d m 0) back

  -- any other
  pub get_or-overlay_outside : (i : ℕ) → (i < at) ⊎ (at + length bytes ≤ i) → get_or (overlay d at bytes) i 0 ≡ get_or d i 0
  get_or-overlay_outside i (inl h) = get_or-overlay-before i h
  get_or-overlay_outside i (inr h) = get_or-overlay_behind i h
