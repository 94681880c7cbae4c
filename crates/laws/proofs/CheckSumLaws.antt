-- Laws of `CheckSums`, each over the algorithm, so that both widths cite the same one: a register over bytes, the linearity of its steps,
-- steps in which nothing falls out, its bounds, and the check sum at the end of a frame.
use mathlib.Core.Path.{◌≡◌, refl, sym, ap, ◌∙◌}
use mathlib.Core.Bool.{Bool, true, false, cond, xor}
use mathlib.Core.List.{List, [], ◌∷◌, ◌++◌}
use mathlib.Core.Logic.{◌⊎◌, inl, inr}
use Prim.Native.Nat.{ℕ, zero, suc, ◌+◌, ◌-◌, ◌*◌, ◌/◌, ◌%◌, ◌^◌, ◌≤◌, ◌<◌}
use native.Mathlib.Nat.{mod-lt, add-zero, mul_assoc, pow-suc, zero-mod, zero-div, mul-mod_left, div-eq_of_lt, lt_of_lt_of_le}
use native.Mathlib.Numerals.{add-one}
use native.Mathlib.Omega.{arith}
use lib.Arith.{bin_ind}
use lib.Bits.{bit_xor, differ, xor_step, xor_shr, xor_mod, xor_block, xor_lt, xor_comm, xor_self, xor_shifted}
use lib.Dec.{eqb}
use lib.ListN.{length, get_or, drop, length-append}
use lib.Pow.{pow_pos, pow_mono, shl_lt, shl_exact, shl-shr, shr-shr, field, mod-mod-pow, split}
use lib.Seq.{drop-cons, take_at, drop_at}
use Rattle.rules.specs.declared.kinds.Bus.{Bus}
use Rattle.rules.specs.declared.kinds.Bus.TheVariants.{I2c, Rs485}
use Rattle.rules.specs.CheckSums.{Algorithm, most_first, least_first, times, bit, byte, run, crc, sum, sum_length, sealed}
use Rattle.rules.specs.CheckSums.{unsealed, sum_right}
use Rattle.laws.proofs.BytesLaws.{same_self}

-- ---- a register over bytes

-- eight steps are four and four
pub byte_halves : (k : Algorithm) (r b : ℕ) → byte k r b ≡ times 4 (bit k) (times 4 (bit k) (bit_xor r b))
unfolding byte
byte_halves k r b = refl

pub run-append : (k : Algorithm) (r : ℕ) (l m : List ℕ) → run k r (l ++ m) ≡ run k (run k r l) m
unfolding run
run-append k r [] m = refl
run-append k r (b ∷ l) m = run-append k (byte k r b) l m

-- one byte further in a slice
pub run_next : (k : Algorithm) (r : ℕ) (l : List ℕ) (i : ℕ) → i < length l
    → run k r (drop i l) ≡ run k (byte k r (get_or l i 0)) (drop (i + 1) l)
unfolding run
run_next k r l i h = rw (add-one, drop-cons l i 0)

-- ---- exclusive or

two : (x : ℕ) → x < 2 → (x ≡ 0) ⊎ (x ≡ 1)
two zero h = inl refl
two (suc zero) h = inr refl
two (suc (suc x)) h = absurd (omega arith)

odd : (a : ℕ) → (a % 2 ≡ 0) ⊎ (a % 2 ≡ 1)
odd a = two (a % 2) (omega arith)

differ_assoc : (x y z : ℕ) → (x ≡ 0) ⊎ (x ≡ 1) → (y ≡ 0) ⊎ (y ≡ 1) → (z ≡ 0) ⊎ (z ≡ 1) → differ (differ x y) z ≡ differ x (differ y z)
differ_assoc x y z (inl p) q r = rw p
differ_assoc x y z (inr p) (inl q) r = rw (p, q)
differ_assoc x y z (inr p) (inr q) (inl r) = rw (p, q, r)
differ_assoc x y z (inr p) (inr q) (inr r) = rw (p, q, r)

xor_half : (a b : ℕ) → bit_xor a b / 2 ≡ bit_xor (a / 2) (b / 2)
xor_half a b = xor_shr a b 1

differ_xor : (x y : ℕ) → (x ≡ 0) ⊎ (x ≡ 1) → (y ≡ 0) ⊎ (y ≡ 1) → bit_xor x y ≡ differ x y
differ_xor x y (inl p) q = rw p
differ_xor x y (inr p) (inl q) = rw (p, q)
differ_xor x y (inr p) (inr q) = rw (p, q)

xor_odd : (a b : ℕ) → bit_xor a b % 2 ≡ differ (a % 2) (b % 2)
xor_odd a b = xor_mod a b 1 ∙ differ_xor (a % 2) (b % 2) (odd a) (odd b)

pub xor_assoc : (a b c : ℕ) → bit_xor (bit_xor a b) c ≡ bit_xor a (bit_xor b c)
xor_assoc a =
    bin_ind (λ (n : ℕ). (b c : ℕ) → bit_xor (bit_xor n b) c ≡ bit_xor n (bit_xor b c)) (λ b c. refl)
    (λ n ih b c.
    xor_step (bit_xor n b) c
    ∙ rw (
      xor_half n b,
      xor_odd n b,
      ih (b / 2) (c / 2),
      differ_assoc (n % 2) (b % 2) (c % 2) (odd n) (odd b) (odd c),
      ← xor_half b c,
      ← xor_odd b c,
    )
    (sym (xor_step n (bit_xor b c))))
    a

-- the lowest bit as a test
xor_test : (a b : ℕ) → eqb (bit_xor a b % 2) 1 ≡ xor (eqb (a % 2) 1) (eqb (b % 2) 1)
unfolding xor
xor_test a b = cases (odd a) (odd b)
  where
    cases : (a % 2 ≡ 0) ⊎ (a % 2 ≡ 1) → (b % 2 ≡ 0) ⊎ (b % 2 ≡ 1)
        → eqb (bit_xor a b % 2) 1 ≡ xor (eqb (a % 2) 1) (eqb (b % 2) 1)
    cases (inl p) (inl q) = rw (xor_odd a b, p, q)
    cases (inl p) (inr q) = rw (xor_odd a b, p, q)
    cases (inr p) (inl q) = rw (xor_odd a b, p, q)
    cases (inr p) (inr q) = rw (xor_odd a b, p, q)

xor_double : (a b : ℕ) → bit_xor a b * 2 ≡ bit_xor (a * 2) (b * 2)
xor_double a b =
    let e : bit_xor (a * 2) (b * 2) ≡ bit_xor a b * 2 = simp add-zero at (xor_block 1 a b 0 0 (omega arith) (omega arith)) in sym e

-- ---- the steps are linear

-- the bit that falls out and what is left of the register, of an exclusive or
pub record Linear (k : Algorithm) : Type 0 where
  pub out_xor : (a b : ℕ) → k.out (bit_xor a b) ≡ xor (k.out a) (k.out b)
  pub rest_xor : (a b : ℕ) → k.rest (bit_xor a b) ≡ bit_xor (k.rest a) (k.rest b)

pub most_first_linear : (poly start : ℕ) → Linear (most_first poly start)
most_first_linear poly start = record {
  out_xor = λ a b. rw (xor_shr a b 7) (xor_test (a / 128) (b / 128));
  rest_xor = λ a b. rw (xor_double a b) (xor_mod (a * 2) (b * 2) 8);
}

pub least_first_linear : (poly start : ℕ) → Linear (least_first poly start)
least_first_linear poly start = record { out_xor = xor_test; rest_xor = xor_half }

-- the polynomial is added to a sum once for each part that adds it
cond_xor : (p q : Bool) (x y poly : ℕ)
    → cond (xor p q) (bit_xor (bit_xor x y) poly) (bit_xor x y) ≡ bit_xor (cond p (bit_xor x poly) x) (cond q (bit_xor y poly) y)
unfolding xor
cond_xor false false x y poly = refl
cond_xor false true x y poly = xor_assoc x y poly
cond_xor true false x y poly = xor_assoc x y poly ∙ ap (bit_xor x) (xor_comm y poly) ∙ sym (xor_assoc x poly y)
cond_xor true true x y poly =
    sym (xor_assoc x poly (bit_xor y poly) ∙ ap (bit_xor x)
    (ap (bit_xor poly) (xor_comm y poly) ∙ sym (xor_assoc poly poly y) ∙ rw (xor_self poly)))

pub bit_linear : (k : Algorithm) → Linear k → (a b : ℕ) → bit k (bit_xor a b) ≡ bit_xor (bit k a) (bit k b)
unfolding bit
bit_linear k h a b = rw (h.out_xor a b, h.rest_xor a b) (cond_xor (k.out a) (k.out b) (k.rest a) (k.rest b) k.poly)

pub times_linear : (k : Algorithm) → Linear k → (n a b : ℕ)
    → times n (bit k) (bit_xor a b) ≡ bit_xor (times n (bit k) a) (times n (bit k) b)
times_linear k h zero a b = refl
times_linear k h (suc n) a b = ap (bit k) (times_linear k h n a b) ∙ bit_linear k h (times n (bit k) a) (times n (bit k) b)

-- ---- steps in which nothing falls out: with linearity, several steps at once by a table of what falls out

-- no bit falls out of a register in n steps
abbrev pub NoneOut : Algorithm → ℕ → ℕ → Type 0
NoneOut k n r = (i : ℕ) → i < n → k.out (times i k.rest r) ≡ false

pub times_none_out : (k : Algorithm) (n r : ℕ) → NoneOut k n r → times n (bit k) r ≡ times n k.rest r
unfolding bit
times_none_out k zero r h = refl
times_none_out k (suc n) r h = rw (times_none_out k n r (λ i b. h i (omega arith)), h n (omega arith))

-- a register of two parts, of which only the first has bits that fall out
pub times_parts : (k : Algorithm) → Linear k → (n falling staying : ℕ) → NoneOut k n staying
    → times n (bit k) (bit_xor falling staying) ≡ bit_xor (times n (bit k) falling) (times n k.rest staying)
times_parts k h n falling staying none =
    times_linear k h n falling staying ∙ ap (bit_xor (times n (bit k) falling)) (times_none_out k n staying none)

-- a number is its high part and its low part
high_low_lem : (r n : ℕ) → bit_xor (r / 2 ^ n * 2 ^ n) (r % 2 ^ n) ≡ r
high_low_lem r n = xor_shifted (r / 2 ^ n) n (r % 2 ^ n) (mod-lt r (pow_pos n)) ∙ split r n

-- least significant bit first: the n low bits fall out
module _ (poly start : ℕ) where
  times_half : (n r : ℕ) → times n (least_first poly start).rest r ≡ r / 2 ^ n
  times_half zero r = omega arith
  times_half (suc n) r = ap (λ (x : ℕ). x / 2) (times_half n r) ∙ (rw add-one at (shr-shr r n 1))

  low_none_out : (n r : ℕ) → r % 2 ^ n ≡ 0 → NoneOut (least_first poly start) n r
  low_none_out n r e i b =
      let whole : n - (1 + i) + (1 + i) ≡ n = omega arith in
      let low : r % 2 ^ (1 + i) ≡ 0 = sym (mod-mod-pow r (n - (1 + i)) (1 + i)) ∙ rw (whole, e) (zero-mod (2 ^ (1 + i))) in
      let even : r / 2 ^ i % 2 ≡ 0 = sym (field r 1 i) ∙ rw low (zero-div (2 ^ i)) in
      rw (times_half i r, even)

  pub least_first-steps : (n r : ℕ)
      → times n (bit (least_first poly start)) r ≡ bit_xor (times n (bit (least_first poly start)) (r % 2 ^ n)) (r / 2 ^ n)
  least_first-steps n r =
      ap (times n (bit (least_first poly start))) (sym (high_low_lem r n) ∙ xor_comm (r / 2 ^ n * 2 ^ n) (r % 2 ^ n))
      ∙ times_parts (least_first poly start) (least_first_linear poly start) n (r % 2 ^ n) (r / 2 ^ n * 2 ^ n)
      (low_none_out n (r / 2 ^ n * 2 ^ n) (mul-mod_left (r / 2 ^ n) (2 ^ n)))
      ∙ rw times_half (ap (bit_xor (times n (bit (least_first poly start)) (r % 2 ^ n))) (shl-shr (r / 2 ^ n) n))

-- most significant bit first: the n high bits fall out, m stay
module _ (poly start m n : ℕ) (whole : m + n ≡ 8) where
  times_double : (i r : ℕ) → i ≤ n → r < 2 ^ m → times i (most_first poly start).rest r ≡ r * 2 ^ i
  times_double zero r b h = omega arith
  times_double (suc i) r b h =
      let next : r * 2 ^ i * 2 ≡ r * 2 ^ suc i = rw pow-suc (mul_assoc r (2 ^ i) 2) in
      rw (times_double i r (omega arith) h, next) (shl_exact m (suc i) 8 h (omega arith))

  high_none_out : (r : ℕ) → r < 2 ^ m → NoneOut (most_first poly start) n r
  high_none_out r h i b =
      let below : r * 2 ^ i < 2 ^ 7 = lt_of_lt_of_le (shl_lt m i h) (pow_mono {j = 7} (omega arith)) in
      rw (times_double i r (omega arith) h, div-eq_of_lt below)

  pub most_first-steps : (r : ℕ) → times n (bit (most_first poly start)) r
      ≡ bit_xor (times n (bit (most_first poly start)) (r / 2 ^ m * 2 ^ m)) (r % 2 ^ m * 2 ^ n)
  most_first-steps r =
      ap (times n (bit (most_first poly start))) (sym (high_low_lem r m))
      ∙ times_parts (most_first poly start) (most_first_linear poly start) n (r / 2 ^ m * 2 ^ m) (r % 2 ^ m)
      (high_none_out (r % 2 ^ m) (mod-lt r (pow_pos m)))
      ∙ rw (times_double n (r % 2 ^ m) (omega arith) (mod-lt r (pow_pos m)))

-- ---- bounds: a register of so many bits keeps to them

-- the start, the polynomial and what is left of a register fit the width
pub record Bounded (width : ℕ) (k : Algorithm) : Type 0 where
  pub start_lt : k.start < 2 ^ width
  pub poly_lt : k.poly < 2 ^ width
  pub rest_lt : (r : ℕ) → r < 2 ^ width → k.rest r < 2 ^ width

pub most_first_bounded : (poly start : ℕ) → poly < 2 ^ 8 → start < 2 ^ 8 → Bounded 8 (most_first poly start)
most_first_bounded poly start hp hs = record { start_lt = hs; poly_lt = hp; rest_lt = λ r h. omega arith }

pub least_first_bounded : (width poly start : ℕ) → poly < 2 ^ width → start < 2 ^ width → Bounded width (least_first poly start)
least_first_bounded width poly start hp hs = record { start_lt = hs; poly_lt = hp; rest_lt = λ r h. omega arith }

cond-lt : (p : Bool) (n x y : ℕ) → x < n → y < n → cond p x y < n
cond-lt true n x y hx hy = hx
cond-lt false n x y hx hy = hy

module _ (width : ℕ) (k : Algorithm) (h : Bounded width k) where
  pub bit-lt : (r : ℕ) → r < 2 ^ width → bit k r < 2 ^ width
  unfolding bit
  bit-lt r hr =
      let rest = h.rest_lt r hr in
      cond-lt (k.out r) (2 ^ width) (bit_xor (k.rest r) k.poly) (k.rest r) (xor_lt width (k.rest r) k.poly rest h.poly_lt) rest

  pub times-lt : (n r : ℕ) → r < 2 ^ width → times n (bit k) r < 2 ^ width
  times-lt zero r b = b
  times-lt (suc n) r b = bit-lt (times n (bit k) r) (times-lt n r b)

  pub byte-lt : (r b : ℕ) → r < 2 ^ width → b < 2 ^ width → byte k r b < 2 ^ width
  unfolding byte
  byte-lt r b hr hb = times-lt 8 (bit_xor r b) (xor_lt width r b hr hb)

  pub run-lt : (r : ℕ) (bs : List ℕ) → r < 2 ^ width → ((i : ℕ) → get_or bs i 0 < 2 ^ width) → run k r bs < 2 ^ width
  unfolding run
  run-lt r [] hr hbs = hr
  run-lt r (b ∷ bs) hr hbs = run-lt (byte k r b) bs (byte-lt r b hr (hbs 0)) (λ i. hbs (suc i))

  pub crc-lt : (bs : List ℕ) → ((i : ℕ) → get_or bs i 0 < 2 ^ width) → crc k bs < 2 ^ width
  crc-lt bs hbs = run-lt k.start bs h.start_lt hbs

-- ---- the check sum at the end of a frame

pub length-sum : (bus : Bus) (bs : List ℕ) → length (sum bus bs) ≡ sum_length bus
unfolding sum
length-sum I2c bs = refl
length-sum Rs485 bs = refl

pub length-sealed : (bus : Bus) (bs : List ℕ) → length (sealed bus bs) ≡ length bs + sum_length bus
unfolding sealed
length-sealed bus bs = length-append bs (sum bus bs) ∙ ap (λ (n : ℕ). length bs + n) (length-sum bus bs)

-- where the check sum begins
seam : (bus : Bus) (bs : List ℕ) → length bs ≡ length (sealed bus bs) - sum_length bus
seam bus bs = omega (arith, length-sealed bus bs)

pub unsealed-sealed : (bus : Bus) (bs : List ℕ) → unsealed bus (sealed bus bs) ≡ bs
unfolding sealed
unsealed-sealed bus bs = take_at bs (sum bus bs) _ (seam bus bs)

pub sum_right-sealed : (bus : Bus) (bs : List ℕ) → sum_right bus (sealed bus bs) ≡ true
unfolding sum_right sealed
sum_right-sealed bus bs =
    rw (unsealed-sealed bus bs, drop_at bs (sum bus bs) _ (seam bus bs)) (same_self (sum bus bs))
