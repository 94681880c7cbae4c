-- Laws of `HalfBytes`, each over the algorithm, so that both widths cite the same one: the rule at each entry of a right table, and
-- eight bit steps as two table steps.
use mathlib.Core.Path.{◌≡◌, refl, sym, ap, ◌∙◌}
use mathlib.Core.Bool.{true}
use mathlib.Core.List.{List, [], ◌∷◌}
use Prim.Native.Nat.{ℕ, zero, suc, ◌+◌, ◌*◌, ◌%◌, ◌^◌, ◌<◌}
use native.Mathlib.Nat.{add-zero, zero-add}
use native.Mathlib.Omega.{arith}
use lib.Bits.{bit_xor, xor_comm, xor_lt}
use lib.Dec.{eqb}
use lib.ListN.{length, get_or}
use borrow.Author.Tests.{eqb-true}
use Rattle.rules.specs.CheckSums.{Algorithm, most_first, least_first, times, bit, byte, crc8, crc16}
use Rattle.laws.proofs.TestLaws.{&&_true}
use Rattle.laws.proofs.CheckSumLaws.{Bounded, most_first_bounded, least_first_bounded, most_first-steps, least_first-steps}
use Rattle.laws.proofs.CheckSumLaws.{times-lt, byte_halves}
use Rattle.crc_steps.specs.HalfBytes.{Halves, high_half, low_half, entry_right, entries_right, table_right, half_step, table_step}

-- a register of so many bits: in four bit steps one of sixteen half bytes leaves it, and the other bits only move
pub record Halved (width : ℕ) (k : Algorithm) (h : Halves) : Type 0 where
  pub bounded : Bounded width k
  pub leaving_lt : (r : ℕ) → r < 2 ^ width → h.leaving r < 16
  pub four : (r : ℕ) → times 4 (bit k) r ≡ bit_xor (times 4 (bit k) (h.placed (h.leaving r))) (h.moved r)

pub most_first_halved : (poly start : ℕ) → poly < 2 ^ 8 → start < 2 ^ 8 → Halved 8 (most_first poly start) high_half
most_first_halved poly start hp hs = record {
  bounded = most_first_bounded poly start hp hs;
  leaving_lt = λ r b. omega arith;
  four = λ r. let kept : r % 16 * 16 ≡ r * 16 % 256 = omega arith in rw kept at (most_first-steps poly start 4 4 refl r);
}

pub least_first_halved : (width poly start : ℕ) → poly < 2 ^ width → start < 2 ^ width → Halved width (least_first poly start) low_half
least_first_halved width poly start hp hs = record {
  bounded = least_first_bounded width poly start hp hs;
  leaving_lt = λ r b. omega arith;
  four = least_first-steps poly start 4;
}

pub crc8_halved : Halved 8 crc8 high_half
crc8_halved = most_first_halved 0x07 0xFF (omega arith) (omega arith)

pub crc16_halved : Halved 16 crc16 low_half
crc16_halved = least_first_halved 16 0xA001 0xFFFF (omega arith) (omega arith)

-- the rule at each entry of a table that passes the test
pub entry_right_lem : (k : Algorithm) (h : Halves) (i : ℕ) (table : List ℕ) → entries_right k h i table ≡ true
    → (n : ℕ) → n < length table → get_or table n 0 ≡ times 4 (bit k) (h.placed (i + n))
unfolding entries_right
entry_right_lem k h i [] e n b = absurd (omega arith)
entry_right_lem k h i (entry ∷ table) e zero b = rw add-zero (eqb-true _ _ (&&_true (entry_right k h i entry) _ e).0)
entry_right_lem k h i (entry ∷ table) e (suc n) b =
    let place : suc i + n ≡ i + suc n = omega arith in
    rw place at (entry_right_lem k h (suc i) table (&&_true (entry_right k h i entry) _ e).1 n (omega arith))

module _ {width : ℕ} {k : Algorithm} {h : Halves} (halved : Halved width k h) (table : List ℕ) (right : table_right k h table ≡ true) where
  -- four bit steps are one table step
  pub four_bits : (r : ℕ) → r < 2 ^ width → half_step h table r ≡ times 4 (bit k) r
  unfolding half_step
  four_bits r b =
      let tests = &&_true (eqb (length table) 16) (entries_right k h 0 table) right in
      let within : h.leaving r < length table = omega (arith, eqb-true (length table) 16 tests.0, halved.leaving_lt r b) in
      let entry = entry_right_lem k h 0 table tests.1 (h.leaving r) within in
      rw (entry, zero-add) (xor_comm (h.moved r) (times 4 (bit k) (h.placed (h.leaving r)))) ∙ sym (halved.four r)

  -- eight bit steps are two table steps
  pub eight_bits : (r b : ℕ) → r < 2 ^ width → b < 2 ^ width → table_step h table r b ≡ byte k r b
  unfolding table_step
  eight_bits r b hr hb =
      let x = xor_lt width r b hr hb in
      ap (half_step h table) (four_bits (bit_xor r b) x)
      ∙ four_bits (times 4 (bit k) (bit_xor r b)) (times-lt width k halved.bounded 4 (bit_xor r b) x)
      ∙ sym (byte_halves k r b)
