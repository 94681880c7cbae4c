-- Laws of byte layouts: the bytes of a number both ways, parts that lie one behind the other, and parts of an overlay.
use mathlib.Core.Path.{◌≡◌, refl, sym, ap, ◌∙◌}
use mathlib.Core.Bool.{Bool, true, false, ◌&&◌}
use mathlib.Core.List.{List, [], ◌∷◌, ◌++◌, append_assoc}
use Prim.Native.Nat.{ℕ, zero, suc, ◌+◌, ◌-◌, ◌*◌, ◌/◌, ◌%◌, ◌^◌, ◌≤◌, ◌<◌}
use native.Mathlib.Omega.{arith}
use native.Mathlib.Nat.{add-zero, div-div-eq-div-mul}
use native.Mathlib.Numerals.{add-one}
use lib.ListN.{length, take, drop, get_or, length-append, length-drop, take-append-drop}
use lib.Seq.{take-add, take-take, take-append-le, take-append-add, drop_at, drop-append-le, drop-drop, drop-cons, length-take-le}
use Rattle.rules.specs.Bytes.{overlay}
use Rattle.rules.specs.Numbers.{laid}
use Rattle.rules.specs.State.{used}
use Rattle.laws.proofs.BytesLaws.{drop-take, same_self, overlay-same, overlay_within}
use Rattle.laws.proofs.LaidLaws.{overlay-first}
use Rattle.laws.proofs.OverlayLaws.{drop-overlay}
use Rattle.laws.proofs.StateLaws.{used-take}
use Rattle.byte_slices.specs.Four.{four_at, four_bytes}
use Rattle.fields.specs.Fields.{Bytes, part}

-- numbers of four bytes

-- the higher bytes, by steps of one byte
third : (n : ℕ) → n / 65536 ≡ n / 256 / 256
third n = sym (div-div-eq-div-mul n 256 256)

fourth : (n : ℕ) → n / 16777216 ≡ n / 256 / 256 / 256
fourth n = sym (div-div-eq-div-mul (n / 256) 256 256 ∙ div-div-eq-div-mul n 256 65536)

-- the bytes of a number that fits stand for it
pub four_at-four_bytes : (n : ℕ) → n < 2 ^ 32 → four_at (four_bytes n) 0 ≡ n
four_at-four_bytes n h = rw (third n, fourth n) (omega arith)

four_bytes-sum : (a b c d : ℕ) → a < 256 → b < 256 → c < 256 → d < 256
    → four_bytes (a + b * 256 + c * 65536 + d * 16777216) ≡ a ∷ b ∷ c ∷ d ∷ []
four_bytes-sum a b c d ha hb hc hd =
    let first : (a + b * 256 + c * 65536 + d * 16777216) % 256 ≡ a = omega arith in
    let by1 : (a + b * 256 + c * 65536 + d * 16777216) / 256 ≡ b + c * 256 + d * 65536 = omega arith in
    let by2 : (b + c * 256 + d * 65536) / 256 ≡ c + d * 256 = omega arith in
    let by3 : (c + d * 256) / 256 ≡ d = omega arith in
    let second : (b + c * 256 + d * 65536) % 256 ≡ b = omega arith in
    let higher : (c + d * 256) % 256 ≡ c = omega arith in
    let highest : d % 256 ≡ d = omega arith in
    rw (third _, fourth _, by1, by2, by3, first, second, higher, highest)

drop_next : (b : List ℕ) (at next : ℕ) → at < length b → at + 1 ≡ next → drop at b ≡ get_or b at 0 ∷ drop next b
drop_next b at next h e = rw (← e, add-one, drop-cons b at 0)

-- four bytes written out
pub drop_four : (b : List ℕ) (at : ℕ) → at + 4 ≤ length b
    → drop at b ≡ get_or b at 0 ∷ get_or b (at + 1) 0 ∷ get_or b (at + 2) 0 ∷ get_or b (at + 3) 0 ∷ drop (at + 4) b
drop_four b at room =
    rw (
      drop_next b at (at + 1) (omega arith) refl,
      drop_next b (at + 1) (at + 2) (omega arith) (omega arith),
      drop_next b (at + 2) (at + 3) (omega arith) (omega arith),
      drop_next b (at + 3) (at + 4) (omega arith) (omega arith),
    )

-- they are those of the number that they stand for
four_bytes-four_at : (b : List ℕ) (at : ℕ) → Bytes b → at + 4 ≤ length b → four_bytes (four_at b at) ≡ part b at 4
four_bytes-four_at b at bytes room =
    four_bytes-sum _ _ _ _ (bytes at) (bytes (at + 1)) (bytes (at + 2)) (bytes (at + 3))
    ∙ sym (ap (λ (l : List ℕ). take 4 l) (drop_four b at room))

-- parts that lie one behind the other

pub part-part : (b : List ℕ) (at n m : ℕ) → part b at n ++ part b (at + n) m ≡ part b at (n + m)
part-part b at n m = rw (← drop-drop n at b) (sym (take-add n m (drop at b)))

-- behind other bytes too
pub part-more : (front b : List ℕ) (at n m : ℕ) → front ++ part b at n ++ part b (at + n) m ≡ front ++ part b at (n + m)
part-more front b at n m = append_assoc front (part b at n) (part b (at + n) m) ∙ ap (λ (l : List ℕ). front ++ l) (part-part b at n m)

-- the bytes of a number that was read, behind the part before it
pub part_four : (front b : List ℕ) (at n : ℕ) → Bytes b → at + n + 4 ≤ length b
    → front ++ part b at n ++ four_bytes (four_at b (at + n)) ≡ front ++ part b at (n + 4)
part_four front b at n bytes room =
    ap (λ (l : List ℕ). front ++ part b at n ++ l) (four_bytes-four_at b (at + n) bytes room) ∙ part-more front b at n 4

-- other bytes laid over the first of a list whose n bytes behind them stay
pub laid-part : (front b : List ℕ) (n : ℕ) → length front + n ≤ length b
    → laid (front ++ part b (length front) n) b ≡ front ++ drop (length front) b
laid-part front b n room =
    let long : length (front ++ part b (length front) n) ≡ length front + n =
    length-append front (part b (length front) n)
    ∙ ap (λ (k : ℕ). length front + k) (length-take-le n (drop (length front) b) (simp length-drop (omega arith))) in
    rw (long, append_assoc, ← drop-drop n (length front) b, take-append-drop)

-- parts of an overlay

part-append : (l m : List ℕ) (k n : ℕ) → k + n ≤ length l → part (l ++ m) k n ≡ part l k n
part-append l m k n room =
    rw (drop-append-le k l m (omega arith)) (take-append-le n (drop k l) m (simp length-drop (omega arith)))

module _ (b : List ℕ) (at : ℕ) (xs : List ℕ) (fits : at + length xs ≤ length b) where
  -- the one that begins with the bytes laid
  pub part-laid : (n : ℕ) → length xs ≤ n → at + n ≤ length b → part (overlay b at xs) at n ≡ laid xs (part b at n)
  unfolding overlay
  part-laid n within room =
      let rest : length xs + (n - length xs) ≡ n = omega arith in
      let front : length (take at b) ≡ at = length-take-le at b (omega arith) in
      rw (append_assoc (take at b) xs (drop (at + length xs) b), drop_at (take at b) (xs ++ drop (at + length xs) b) at front)
      (ap (λ (k : ℕ). take k (xs ++ drop (at + length xs) b)) (sym rest)
      ∙ take-append-add xs (drop (at + length xs) b) (n - length xs)
      ∙ ap (λ (l : List ℕ). xs ++ take (n - length xs) l) (sym (drop-drop (length xs) at b))
      ∙ ap (λ (l : List ℕ). xs ++ l) (sym (drop-take (length xs) n (drop at b))))

  -- one behind them
  pub part_behind : (k n : ℕ) → at + length xs ≤ k → part (overlay b at xs) k n ≡ part b k n
  part_behind k n past = ap (λ (l : List ℕ). take n l) (drop-overlay b at xs fits k past)

  -- one before them
  pub part-before : (k n : ℕ) → k + n ≤ at → part (overlay b at xs) k n ≡ part b k n
  unfolding overlay
  part-before k n before =
      let front : length (take at b) ≡ at = length-take-le at b (omega arith) in
      let room : k + n ≤ length (take at b) = omega arith in
      rw (append_assoc (take at b) xs (drop (at + length xs) b))
      (part-append (take at b) (xs ++ drop (at + length xs) b) k n room
      ∙ sym (part-append (take at b) (drop at b) k n room)
      ∙ ap (λ (l : List ℕ). part l k n) (take-append-drop at b))

-- a part of a list, replaced by as many bytes
pub part_put : (b : List ℕ) (at n : ℕ) (ys : List ℕ) → length ys ≡ n → take at b ++ (ys ++ drop n (drop at b)) ≡ overlay b at ys
unfolding overlay
part_put b at n ys e = sym (append_assoc (take at b) ys (drop n (drop at b))) ∙ rw (drop-drop n at b, e)

-- bytes laid into a part of a list, and that part laid back
pub overlay-part : (b : List ℕ) (at n : ℕ) (xs : List ℕ) → at + n ≤ length b → length xs ≤ n
    → overlay b at (laid xs (part b at n)) ≡ overlay b at xs
overlay-part b at n xs room fits =
    ap (overlay b at) (sym (overlay-first xs (part b at n)))
    ∙ overlay_within b at n 0 xs room (omega arith)
    ∙ ap (λ (k : ℕ). overlay b k xs) (add-zero at)

-- bytes laid where they stand
pub overlay_own : (b : List ℕ) (at n m : ℕ) → n ≤ m → at + m ≤ length b → overlay b at (used n (part b at m)) ≡ b
overlay_own b at n m within room =
    let long : length (part b at m) ≡ m = length-take-le m (drop at b) (simp length-drop (omega arith)) in
    let own : used n (part b at m) ≡ take n (drop at b) = used-take n (part b at m) (omega arith) ∙ take-take n m (drop at b) within in
    let many : length (take n (drop at b)) ≡ n = length-take-le n (drop at b) (simp length-drop (omega arith)) in
    ap (overlay b at) own
    ∙ overlay-same b at (take n (drop at b)) (omega arith) (rw many (same_self (take n (drop at b))))

-- a byte that is 0 or 1
pub zero_or_one : (P : ℕ → Type 0) (n : ℕ) → n ≤ 1 → P 0 → P 1 → P n
zero_or_one P zero h at0 at1 = at0
zero_or_one P (suc zero) h at0 at1 = at1
zero_or_one P (suc (suc n)) h at0 at1 = absurd (omega arith)
