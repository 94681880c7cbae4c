-- Laws of `Makes`: bytes made at the front of a lent output, more bytes behind them, and their check sum.
use mathlib.Core.Path.{◌≡◌, sym, ◌∙◌}
use mathlib.Core.List.{List, ◌++◌}
use Prim.Native.Nat.{ℕ, ◌+◌, ◌≤◌}
use native.Mathlib.Omega.{arith}
use lib.ListN.{length, take, length-append, length-take}
use Rattle.rules.specs.declared.kinds.Bus.{Bus}
use Rattle.rules.specs.CheckSums.{sealed}
use Rattle.rules.specs.Bytes.{overlay}
use Rattle.rules.specs.Numbers.{laid}
use Rattle.laws.proofs.CheckSumLaws.{length-sealed}
use Rattle.laws.proofs.LaidLaws.{length-laid, overlay_behind, take-laid, laid_over, laid-sealed}
use Rattle.frame.specs.Seal.{Sealing}
use Rattle.request_bytes.specs.Making.{Makes}

-- a list stored behind the first n
pub makes_part : (n : ℕ) (out more : List ℕ) {last : List ℕ} → n + length more ≤ length out → last ≡ overlay out n more
    → Makes (take n out ++ more) out last (n + length more)
makes_part n out more fits stored = record {
  length_is = simp (length-append, length-take) (omega arith);
  output_is = stored ∙ overlay_behind out more n (omega arith);
}

module _ {xs before after : List ℕ} {n : ℕ} (made : Makes xs before after n) where
  -- room for k bytes more
  pub makes_room : (k : ℕ) → length xs + k ≤ length before → n + k ≤ length after
  makes_room k room =
      let same_length : length (laid xs before) ≡ length before = length-laid xs before (omega arith) in
      rw made.output_is (omega (arith, made.length_is))

  -- more bytes behind those made
  pub makes_more : (more : List ℕ) {last : List ℕ} {m : ℕ} → Makes (take n after ++ more) after last m → Makes (xs ++ more) before last m
  makes_more more {last} {m} next =
      let front : take n after ≡ xs = rw made.output_is (take-laid xs before n (sym made.length_is)) in
      let longer : Makes (xs ++ more) after last m = rw front at next in
      record { length_is = longer.length_is; output_is = longer.output_is ∙ rw made.output_is (laid_over xs more before) }

  -- the check sum behind them
  pub makes_sealed : {bus : Bus} {last : List ℕ} {m : ℕ} → Sealing bus n after last m → Makes (sealed bus xs) before last m
  makes_sealed {bus} {last} {m} s = record {
    length_is = s.length_is ∙ rw made.length_is (sym (length-sealed bus xs));
    output_is = s.bytes_are ∙ rw made.output_is (laid-sealed bus xs before n (sym made.length_is));
  }
