-- Why the encoder may write: the numbers of a request fit their bytes where no argument is wrong; and what its answers promise.
use mathlib.Core.Path.{◌≡◌, refl}
use mathlib.Core.Bool.{true, false, ◌||◌}
use mathlib.Core.List.{List}
use Prim.Native.Nat.{ℕ, ◌-◌, ◌<◌, ◌≤◌}
use native.Mathlib.Omega.{arith}
use lib.Dec.{leb, ltb}
use borrow.Author.Tests.{leb-true, ltb-false}
use Rattle.rules.specs.declared.kinds.Bus.{Bus}
use Rattle.rules.specs.declared.kinds.Bus.TheVariants.{I2c, Rs485}
use Rattle.rules.specs.declared.requests.Request.{Request}
use Rattle.rules.specs.declared.requests.Request.TheVariants.{Plain, SetAddress, Write, Read, ResetAddress, Reset}
use Rattle.rules.specs.Profile.{frame_in_range}
use Rattle.rules.specs.Frames.{shortest_reply}
use Rattle.rules.specs.Commands.{reserved}
use Rattle.rules.specs.Master.{Encoding, Instruction, Commands, AddressReset, BoardReset, address_over}
use Rattle.rules.specs.Master.{flash_address_over, numbers_wrong, unmade}
use Rattle.laws.proofs.TestLaws.{&&_true, ||_false}
use Rattle.laws.proofs.ArgumentLaws.{served-lt}
use Rattle.laws.proofs.RequestLaws.{AllowedBy}
use Rattle.request_bytes.specs.Making.{Makes, CommandFits, NumbersFit}
use Rattle.encoder.specs.Calls.{Encodes}

-- numbers that fit their bytes

pub longest_least : (M : ℕ) → frame_in_range M ≡ true → 32 ≤ M
longest_least M e = leb-true 32 M (&&_true (leb 32 M) (leb M 256) e).0

pub longest_most : (M : ℕ) → frame_in_range M ≡ true → M ≤ 256
longest_most M e = leb-true M 256 (&&_true (leb 32 M) (leb M 256) e).1

address_lt : (bus : Bus) (a : ℕ) → address_over bus a ≡ false → a < 256
address_lt I2c a e = omega (arith, ltb-false 127 a e)
address_lt Rs485 a e = omega (arith, ltb-false 255 a e)

flash_address_lt : (a : ℕ) → flash_address_over a ≡ false → a < 65536
flash_address_lt a e = omega (arith, ltb-false 65535 a e)

pub command_fits : (bus : Bus) (M destination : ℕ) (a : Instruction) → AllowedBy bus M destination a → CommandFits a destination
command_fits bus M destination (Commands code arguments) allowed =
    (address_lt bus destination allowed.address_fits_holds, omega (arith, served-lt code allowed.is_served))
command_fits bus M destination AddressReset allowed = tt
command_fits bus M destination BoardReset allowed = tt

pub numbers_fit : (bus : Bus) (M : ℕ) (r : Request) → M ≤ 256 → numbers_wrong bus M r ≡ false → NumbersFit r
numbers_fit bus M (Plain code) most e = tt
numbers_fit bus M (SetAddress address hardware) most e =
    let parts = ||_false (address_over bus address) (reserved bus address || ltb 255 hardware) e in
    (address_lt bus address parts.0, omega (arith, ltb-false 255 hardware (||_false (reserved bus address) _ parts.1).1))
numbers_fit bus M (Write address) most e = flash_address_lt address e
numbers_fit bus M (Read address n) most e =
    let parts = ||_false (flash_address_over address) (ltb (M - shortest_reply bus) n) e in
    (flash_address_lt address parts.0, omega (arith, ltb-false (M - shortest_reply bus) n parts.1))
numbers_fit bus M ResetAddress most e = tt
numbers_fit bus M Reset most e = tt

-- answers

pub encodes_unmade : (number : ℕ) (e : Encoding) (out : List ℕ) → e ≡ unmade number → Encodes number 0 e out out
encodes_unmade number e out is = rw is (record { number_is = refl; length_is = refl; output_is = refl })

pub encodes_made : (bytes before after : List ℕ) (r : ℕ) (e : Encoding) → Makes bytes before after r
    → e ≡ record { number = 0; bytes = bytes } → Encodes 0 r e before after
encodes_made bytes before after r e made is = rw is (record { number_is = refl; length_is = made.length_is; output_is = made.output_is })
