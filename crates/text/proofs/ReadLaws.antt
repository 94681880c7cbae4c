-- Laws of fields, numbers and pairs of digits.
use Rattle.std.proofs.Common.{◌≡◌, ℕ, suc, ◌+◌, ◌-◌, ◌%◌, ◌<◌, ◌≤◌, Bool, true, false, cond, not, ◌&&◌, eqb, ltb, List, [], ◌∷◌, ◌++◌}
use Rattle.std.proofs.Common.{set, take_all, take-suc-set, append-nil, length-drop, le-leb}
use Rattle.std.specs.Prelude.{slice_range}
use lib.Seq.{append_snoc}
use Rattle.std.proofs.Common.{Option, Some, None, length, get_or, take, drop, sym, refl, ap, ◌∙◌, arith, length-take-le, add-one}
use Rattle.std.proofs.Common.{drop-cons, drop_of_length-le, leb, leb-false}
use Rattle.std.specs.Prelude.{is_some, ◌==◌, IfSome}
use Rattle.std.specs.Option.{unwrap_or, option_map}
use Rattle.std.specs.List.{list_all, position, position_or_len}
use Rattle.std.proofs.lemmas.Grind.{common_steps}
use Rattle.std.proofs.lemmas.List.Sums.{prefix_len-le-length}
use Rattle.text.specs.Counts.{IsPrefixLen}
use Rattle.text.specs.Read.{space, before, field_at, next_field, next_place, number_of, both, numbers_at, place_after, place_read}
use Rattle.text.specs.Read.{digit_of, extended, spelled, BytesRead, hex_right, hex_bytes, pair_value, is_dash}

-- where a test passes first, or the length
unwrap_cut : (a n : ℕ) → a ≤ n → unwrap_or (cond (ltb a n) (Some a) None) n ≡ a
unwrap_cut a n h = grind (arith, common_steps)

pub unwrap_position : {B : Type 0} (test : B → Bool) (xs : List B) → unwrap_or (position test xs) (length xs) ≡ position_or_len test xs
unwrap_position test xs = unwrap_cut (position_or_len test xs) (length xs) (prefix_len-le-length _ xs)

-- the first byte b stands after the bytes before it
pub len-before : (b : ℕ) (s : List ℕ) → position_or_len (λ (x : ℕ). x == b) s ≡ length (before b s)
unfolding before
len-before b [] = refl
len-before b (x ∷ l) = by (eqb x b) (len-before b l)
  where
    by : (t : Bool) → position_or_len (λ (y : ℕ). y == b) l ≡ length (before b l)
        → cond (not t) (1 + position_or_len (λ (y : ℕ). y == b) l) 0 ≡ length (cond t [] (x ∷ before b l))
    by true e = refl
    by false e = omega (arith, e)

-- the bytes before it begin the list
pub take-before : (b : ℕ) (l : List ℕ) → take (length (before b l)) l ≡ before b l
unfolding before
take-before b [] = refl
take-before b (x ∷ l) = by (eqb x b) (take-before b l)
  where
    by : (t : Bool) → take (length (before b l)) l ≡ before b l
        → take (length (cond t [] (x ∷ before b l))) (x ∷ l) ≡ cond t [] (x ∷ before b l)
    by true e = refl
    by false e = ap (λ (r : List ℕ). x ∷ r) e

-- one byte, and what is left after it
pub drop-one : (s : List ℕ) (i : ℕ) → i < length s → drop i s ≡ get_or s i 0 ∷ drop (i + 1) s
drop-one s i h = rw (add-one, drop-cons s i 0)

-- pairs of digits are an even number of digits
pub hex_right-even : (s : List ℕ) → length s % 2 ≡ 0 → hex_right s ≡ list_all (λ (b : ℕ). is_some (digit_of b)) s
unfolding hex_right
hex_right-even [] h = refl
hex_right-even (a ∷ []) h = absurd (omega arith)
hex_right-even (a ∷ b ∷ s) h = by (is_some (digit_of a)) (is_some (digit_of b)) (hex_right-even s (omega arith))
  where
    by : (p q : Bool) → hex_right s ≡ list_all (λ (b : ℕ). is_some (digit_of b)) s
        → (p && q && hex_right s) ≡ (p && (q && list_all (λ (b : ℕ). is_some (digit_of b)) s))
    by true true e = e
    by true false e = refl
    by false q e = refl

pub hex_right-odd : (s : List ℕ) → (length s % 2 ≡ 0 → ⊥) → hex_right s ≡ false
unfolding hex_right
hex_right-odd [] h = absurd (h refl)
hex_right-odd (a ∷ []) h = refl
hex_right-odd (a ∷ b ∷ s) h = by (is_some (digit_of a)) (is_some (digit_of b)) (hex_right-odd s (λ e. h (omega arith)))
  where
    by : (p q : Bool) → hex_right s ≡ false → (p && q && hex_right s) ≡ false
    by true true e = e
    by true false e = refl
    by false q e = refl

-- the first pair, and those after it
pub hex_bytes_next : (s r : List ℕ) (p : List ℕ) → s ≡ p ++ r → length p ≡ 2
    → hex_bytes s ≡ pair_value (get_or p 0 0) (get_or p 1 0) ∷ hex_bytes r
unfolding hex_bytes
hex_bytes_next s r (a ∷ b ∷ []) e h = rw e
hex_bytes_next s r [] e h = absurd (omega arith)
hex_bytes_next s r (a ∷ []) e h = absurd (omega arith)
hex_bytes_next s r (a ∷ b ∷ d ∷ p) e h = absurd (omega arith)

-- fewer than two bytes
pub hex_bytes-rest : (s : List ℕ) → length s < 2 → hex_bytes s ≡ []
unfolding hex_bytes
hex_bytes-rest [] h = refl
hex_bytes-rest (a ∷ []) h = refl
hex_bytes-rest (a ∷ b ∷ s) h = absurd (omega arith)

-- a number of bytes that are there
pub prefix_len_of_le : (n : ℕ) (xs : List ℕ) → n ≤ length xs → IsPrefixLen n xs
prefix_len_of_le n xs h = (h, sym (length-take-le n xs h))

-- past the end of a line there is no field
pub field_none : (s : List ℕ) (at : ℕ) → next_field s at ≡ None → field_at s at ≡ []
unfolding before
field_none s at h = by (leb at (length s)) refl h
  where
    by : (t : Bool) → leb at (length s) ≡ t → cond t (Some (field_at s at)) None ≡ None → field_at s at ≡ []
    by true e h = absurd (cc)
    by false e h =
        let past : length s ≤ at = omega (arith, leb-false at (length s) e) in
        rw (drop_of_length-le s past)

-- the digits of a number from place i on, after a value v
module _ (most v : ℕ) (s : List ℕ) (i : ℕ) where
  one : i < length s → spelled most (Some v) (drop i s) ≡ spelled most (extended most v (digit_of (get_or s i 0))) (drop (i + 1) s)
  unfolding spelled
  one h = rw (drop-one s i h)

  -- one digit further
  pub spelled_next : (w : ℕ) → i < length s → extended most v (digit_of (get_or s i 0)) ≡ Some w
      → spelled most (Some v) (drop i s) ≡ spelled most (Some w) (drop (i + 1) s)
  spelled_next w h e = one h ∙ ap (λ o. spelled most o (drop (i + 1) s)) e

  -- no digit, or more than most
  pub spelled_wrong : i < length s → extended most v (digit_of (get_or s i 0)) ≡ None → spelled most (Some v) (drop i s) ≡ None
  unfolding spelled
  spelled_wrong h e = one h ∙ ap (λ o. spelled most o (drop (i + 1) s)) e

-- `-` is one byte, so no pair
pub is_dash-hex_bytes : (s : List ℕ) → is_dash s ≡ true → hex_bytes s ≡ []
unfolding hex_bytes
is_dash-hex_bytes [] h = refl
is_dash-hex_bytes (c ∷ []) h = refl
is_dash-hex_bytes (c ∷ d ∷ s) h = absurd (cc)

-- numbers that were read, before those left to read
abbrev pub joined : List ℕ → Option (List ℕ) → Option (List ℕ)
joined xs ys = option_map (λ (r : List ℕ). xs ++ r) ys

-- no field is no byte string
pub no_bytes : (f out : List ℕ) (r : Option ℕ) → f ≡ [] → r ≡ None → BytesRead f out r out
no_bytes [] out None e h = record { count = refl; laid = refl }
no_bytes (c ∷ f) out r e h = absurd (cc)
no_bytes [] out (Some n) e h = absurd (cc)

pub within_none : (r : Option ℕ) (P : ℕ → Type 0) → r ≡ None → IfSome r P
within_none None P e = tt
within_none (Some n) P e = absurd (cc)

-- the field at a place, as the start of what is left there
pub field_found : (s r : List ℕ) (at n : ℕ) → at ≤ length s → r ≡ slice_range s at (length s) → n ≡ length (before space r)
    → Some (take n r) ≡ next_field s at
field_found s r at n h e len =
    let whole : r ≡ drop at s = e ∙ take_all (length s - at) (drop at s) (omega (arith, length-drop at s)) in
    ap (λ (k : ℕ). Some (take k r)) len ∙ ap Some (take-before space r ∙ ap (before space) whole) ∙ rw (le-leb at (length s) h)

-- the numbers left to read from a place, the next of which is wrong
pub numbers_wrong : (most : ℕ) (s : List ℕ) (at n k : ℕ) (xs : List ℕ) (all : Option (List ℕ)) → n ≡ suc k
    → number_of most (field_at s at) ≡ None → joined xs (numbers_at most s at n) ≡ all → None ≡ all
unfolding numbers_at
numbers_wrong most s at n k xs all left e h =
    let wrong : numbers_at most s at (suc k) ≡ None = rw e in
    rw (left, wrong) at h

-- one number further
joined_next : (xs : List ℕ) (i v : ℕ) (ys : Option (List ℕ)) → i < length xs
    → joined (take i xs) (both (Some v) ys) ≡ joined (take (i + 1) (set xs i v)) ys
joined_next xs i v None h = refl
joined_next xs i v (Some ys) h = ap Some (sym (rw (add-one i, take-suc-set xs i v h) (append_snoc (take i xs) v ys)))

pub numbers_next : (most : ℕ) (s s' : List ℕ) (at at' n k : ℕ) (xs : List ℕ) (i v : ℕ) (all : Option (List ℕ)) → n ≡ suc k → i < length xs
    → number_of most (field_at s at) ≡ Some v → s' ≡ s → at' ≡ next_place s at → joined (take i xs) (numbers_at most s at n) ≡ all
    → joined (take (i + 1) (set xs i v)) (numbers_at most s' at' k) ≡ all
unfolding numbers_at
numbers_next most s s' at at' n k xs i v all left inside e same place h =
    let next : numbers_at most s at (suc k) ≡ both (Some v) (numbers_at most s (next_place s at) k) = rw e in
    rw (same, place) (sym (joined_next xs i v (numbers_at most s (next_place s at) k) inside) ∙ (rw (left, next) at h))

-- and the place after it
pub place_next : (s s' : List ℕ) (at at' n k r : ℕ) → n ≡ suc k → s' ≡ s → at' ≡ next_place s at
    → place_after s at n ≡ r → place_after s' at' k ≡ r
unfolding place_after
place_next s s' at at' n k r left same place h = rw (same, place) (rw left at h)

-- the place behind the first wrong one
pub read_wrong : (most : ℕ) (s : List ℕ) (at at' n k r : ℕ) → n ≡ suc k → number_of most (field_at s at) ≡ None
    → at' ≡ next_place s at → place_read most s at n ≡ r → at' ≡ r
unfolding place_read
read_wrong most s at at' n k r left e place h =
    let wrong : place_read most s at (suc k) ≡ next_place s at = rw e in
    place ∙ sym wrong ∙ (rw left at h)

pub read_next : (most : ℕ) (s s' : List ℕ) (at at' n k v r : ℕ) → n ≡ suc k → number_of most (field_at s at) ≡ Some v → s' ≡ s
    → at' ≡ next_place s at → place_read most s at n ≡ r → place_read most s' at' k ≡ r
unfolding place_read
read_next most s s' at at' n k v r left e same place h =
    let right : place_read most s at (suc k) ≡ place_read most s (next_place s at) k = rw e in
    rw (same, place) (sym right ∙ (rw left at h))

-- all of them
pub numbers_end : (most : ℕ) (s : List ℕ) (at n i : ℕ) (xs : List ℕ) (all : Option (List ℕ)) → n ≡ 0 → length xs ≤ i
    → joined (take i xs) (numbers_at most s at n) ≡ all → Some xs ≡ all
unfolding numbers_at
numbers_end most s at n i xs all none h e =
    ap Some (sym (take_all i xs h) ∙ sym (append-nil (take i xs))) ∙ (rw none at e)
