-- A bus that has a number is the bus of that number.
use mathlib.Core.Path.{◌≡◌, refl, subst}
use Prim.Native.Nat.{ℕ, ◌≤◌}
use native.Mathlib.Omega.{arith}
use Rattle.rules.specs.declared.kinds.Bus.{Bus}
use Rattle.rules.specs.declared.kinds.Bus.TheVariants.{I2c, Rs485}
use Rattle.rules.specs.Buses.{bus_number}
use Rattle.profile_bytes.specs.ProfileBytes.{bus_of}

pub number_most : (b : Bus) {n : ℕ} → bus_number b ≡ n → n ≤ 1
number_most I2c e = omega arith
number_most Rs485 e = omega arith

pub bus_of_number : (b : Bus) {n : ℕ} → bus_number b ≡ n → b ≡ bus_of n
bus_of_number I2c e = rw (← e)
bus_of_number Rs485 e = rw (← e)
