-- Laws of the addresses that set address takes.
use mathlib.Core.Path.{◌≡◌, refl}
use mathlib.Core.Bool.{true, false, ◌&&◌}
use Prim.Native.Nat.{ℕ, ◌%◌, ◌<◌, ◌≤◌}
use native.Mathlib.Omega.{arith}
use native.Mathlib.Nat.{mod-eq_of_lt, mod-lt}
use lib.Dec.{eqb, leb, ltb}
use borrow.Author.Tests.{leb-false, eqb-false, ltb-false, ne_eqb, eq-eqb, lt-ltb}
use Rattle.rules.specs.declared.kinds.Bus.{Bus}
use Rattle.rules.specs.declared.kinds.Bus.TheVariants.{I2c, Rs485}
use Rattle.rules.specs.declared.kinds.Address.TheVariants.{Own}
use Rattle.rules.specs.Frames.{address_fits, addressed}
use Rattle.rules.specs.Commands.{address_taken, reserved}
use Rattle.rules.specs.Master.{address_over}
use Rattle.laws.proofs.TestLaws.{||_false}

-- an address of the bus has no top bit to drop
pub taken-whole : (b : Bus) (a : ℕ) → address_over b a ≡ false → address_taken b a ≡ a
taken-whole I2c a over = mod-eq_of_lt (omega (arith, ltb-false 127 a over))
taken-whole Rs485 a over = refl

-- 0 is reserved
reserved_some : (b : Bus) (a : ℕ) → reserved b a ≡ false → a ≡ 0 → ⊥
reserved_some I2c a e z = omega (arith, leb-false a 7 (||_false (leb a 7) (leb 120 a && leb a 127) e).0)
reserved_some Rs485 a e z = eqb-false a 0 (||_false (eqb a 0) (leb 248 a && leb a 255) e).0 z

-- an address that is taken is one of the bus
pub taken_fits : (b : Bus) (a : ℕ) → address_fits b (address_taken b a) ≡ true
taken_fits I2c a = lt-ltb (a % 128) 128 (mod-lt a (omega arith))
taken_fits Rs485 a = refl

-- an address that is taken and not reserved is heard
pub taken-addressed : (b : Bus) (a : ℕ) → reserved b (address_taken b a) ≡ false
    → addressed b (Own (address_taken b a)) (address_taken b a) ≡ true
unfolding addressed
taken-addressed b a e =
    let own : ℕ = address_taken b a in
    rw (ne_eqb own 0 (reserved_some b own e), taken_fits b a, eq-eqb own own refl)
