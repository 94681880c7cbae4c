-- Laws of what the two buses differ in: how long the parts of a frame are at most.
use mathlib.Core.Path.{◌≡◌, refl}
use Prim.Native.Nat.{ℕ, ◌≤◌}
use native.Mathlib.Omega.{arith}
use lib.ListN.{length}
use Rattle.rules.specs.declared.kinds.Bus.{Bus}
use Rattle.rules.specs.declared.kinds.Bus.TheVariants.{I2c, Rs485}
use Rattle.rules.specs.CheckSums.{sum_length}
use Rattle.rules.specs.Frames.{header, header_length, shortest_reply}

pub length-header : (bus : Bus) (address : ℕ) → length (header bus address) ≡ header_length bus
length-header I2c address = refl
length-header Rs485 address = refl

pub header_length-le : (bus : Bus) → header_length bus ≤ 1
header_length-le I2c = omega arith
header_length-le Rs485 = omega arith

pub sum_length-le : (bus : Bus) → sum_length bus ≤ 2
sum_length-le I2c = omega arith
sum_length-le Rs485 = omega arith

pub shortest_reply-le : (bus : Bus) → shortest_reply bus ≤ 5
shortest_reply-le I2c = omega arith
shortest_reply-le Rs485 = omega arith
