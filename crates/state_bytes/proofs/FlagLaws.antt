-- Laws of the first three bytes of a state: address kind, own address, running; each both ways.
use mathlib.Core.Path.{◌≡◌, refl}
use mathlib.Core.Bool.{Bool, true, false}
use Prim.Native.Nat.{ℕ, ◌≤◌}
use native.Mathlib.Omega.{arith}
use lib.Dec.{eqb}
use Rattle.rules.specs.declared.kinds.Address.{Address}
use Rattle.rules.specs.declared.kinds.Address.TheVariants.{DefaultRange, Own}
use Rattle.fields.proofs.Laws.{zero_or_one}
use Rattle.state_bytes.specs.StateBytes.{address_of, kind_byte, own_byte, running_byte}

pub address_of_bytes : (a : Address) (before : ℕ) → address_of (kind_byte a) (own_byte a before) ≡ a
address_of_bytes DefaultRange before = refl
address_of_bytes (Own own) before = refl

pub kind_byte_address_of : (kind own : ℕ) → kind ≤ 1 → kind_byte (address_of kind own) ≡ kind
kind_byte_address_of kind own h = zero_or_one (λ (n : ℕ). kind_byte (address_of n own) ≡ n) kind h refl refl

pub own_byte_address_of : (kind own : ℕ) → kind ≤ 1 → own_byte (address_of kind own) own ≡ own
own_byte_address_of kind own h = zero_or_one (λ (n : ℕ). own_byte (address_of n own) own ≡ own) kind h refl refl

pub running_byte_lem : (running : Bool) → eqb (running_byte running) 1 ≡ running
running_byte_lem true = refl
running_byte_lem false = refl

pub running_byte-byte : (x : ℕ) → x ≤ 1 → running_byte (eqb x 1) ≡ x
running_byte-byte x h = zero_or_one (λ (n : ℕ). running_byte (eqb n 1) ≡ n) x h refl refl

pub kind_byte_most : (a : Address) → kind_byte a ≤ 1
kind_byte_most DefaultRange = omega arith
kind_byte_most (Own own) = omega arith

pub running_byte_most : (running : Bool) → running_byte running ≤ 1
running_byte_most true = omega arith
running_byte_most false = omega arith
