-- The argument lengths that the table allows, by code.
use mathlib.Core.Path.{◌≡◌, refl, sym, ap, ◌∙◌}
use mathlib.Core.Bool.{true}
use Prim.Native.Nat.{ℕ, ◌≤◌}
use native.Mathlib.Omega.{arith}
use lib.Dec.{leb}
use borrow.Author.Tests.{leb-true}
use Rattle.rules.specs.Commands.{tabled, length_allowed}
use Rattle.laws.proofs.TestLaws.{&&_true}

-- at least the shortest, at most the longest
pub allowed_between : (code k n : ℕ) → code ≡ k → length_allowed code n ≡ true → (tabled k 1 ≤ n) × (n ≤ tabled k 2)
allowed_between code k n e allowed =
    let parts = &&_true (leb (tabled code 1) n) (leb n (tabled code 2)) allowed in
    (rw e at (leb-true (tabled code 1) n parts.0), rw e at (leb-true n (tabled code 2) parts.1))

pub set_address_arguments : (code n : ℕ) → code ≡ 0x01 → length_allowed code n ≡ true → n ≡ 2
unfolding tabled
set_address_arguments code n e allowed = let b = allowed_between code 0x01 n e allowed in omega (arith, b.0, b.1)

pub write_arguments : (code n : ℕ) → code ≡ 0x06 → length_allowed code n ≡ true → 2 ≤ n
unfolding tabled
write_arguments code n e allowed = (allowed_between code 0x06 n e allowed).0

pub read_arguments : (code n : ℕ) → code ≡ 0x08 → length_allowed code n ≡ true → n ≡ 3
unfolding tabled
read_arguments code n e allowed = let b = allowed_between code 0x08 n e allowed in omega (arith, b.0, b.1)
