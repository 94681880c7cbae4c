-- Laws of the general calls' form: how long it is, and that on RS485 it says its address.
use mathlib.Core.Path.{◌≡◌, refl}
use mathlib.Core.Bool.{Bool, true, false, ◌&&◌}
use mathlib.Core.List.{List, [], ◌∷◌}
use Prim.Native.Nat.{ℕ, ◌≤◌}
use native.Mathlib.Omega.{arith}
use lib.Dec.{eqb}
use lib.ListN.{length, get_or}
use borrow.Author.Tests.{eq-eqb}
use Rattle.rules.specs.declared.kinds.Bus.{Bus}
use Rattle.rules.specs.declared.kinds.Bus.TheVariants.{I2c, Rs485}
use Rattle.rules.specs.Bytes.{same}
use Rattle.rules.specs.CheckSums.{sealed}
use Rattle.rules.specs.Frames.{reset_address_frame, reset_frame}
use Rattle.laws.proofs.BytesLaws.{same_true}
use Rattle.laws.proofs.CheckSumLaws.{length-sealed}
use Rattle.general_calls.specs.declared.General.{General}
use Rattle.general_calls.specs.declared.General.TheVariants.{ResetAddress, Reset}
use Rattle.general_calls.specs.Forms.{general_frame, general_length}

pub general_length-le : (bus : Bus) → general_length bus ≤ 4
general_length-le I2c = omega arith
general_length-le Rs485 = omega arith

pub length_general : (bus : Bus) (call : General) → length (general_frame bus call) ≡ general_length bus
unfolding reset_address_frame reset_frame
length_general I2c ResetAddress = refl
length_general I2c Reset = refl
length_general Rs485 ResetAddress = length-sealed Rs485 (0 ∷ 0x44 ∷ [])
length_general Rs485 Reset = length-sealed Rs485 (0 ∷ 0x46 ∷ [])

general_to-all : (call : General) → get_or (general_frame Rs485 call) 0 0 ≡ 0
unfolding reset_address_frame reset_frame sealed
general_to-all ResetAddress = refl
general_to-all Reset = refl

-- on RS485 the form of a general call says its address
same-to-all : (f form : List ℕ) → get_or form 0 0 ≡ 0 → same f form ≡ (eqb (get_or f 0 0) 0 && same f form)
same-to-all f form zero = go (same f form) refl
  where
    drops : (b : Bool) → false ≡ (b && false)
    drops true = refl
    drops false = refl

    go : (b : Bool) → same f form ≡ b → b ≡ (eqb (get_or f 0 0) 0 && b)
    go true e = rw (same_true f form e, eq-eqb _ _ zero)
    go false e = drops (eqb (get_or f 0 0) 0)

pub same_general : (f : List ℕ) (call : General)
    → same f (general_frame Rs485 call) ≡ (eqb (get_or f 0 0) 0 && same f (general_frame Rs485 call))
same_general f call = same-to-all f (general_frame Rs485 call) (general_to-all call)
