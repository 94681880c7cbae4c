-- A last reply that is too long.
use mathlib.Core.Path.{◌≡◌}
use mathlib.Core.Bool.{false}
use mathlib.Core.List.{List}
use Prim.Native.Nat.{ℕ, ◌<◌}
use lib.ListN.{length}
use borrow.Author.Tests.{lt-leb}
use Rattle.rules.specs.declared.kinds.Bus.{Bus}
use Rattle.rules.specs.declared.kinds.Bus.TheVariants.{I2c, Rs485}
use Rattle.rules.specs.State.{reply_formed}

-- a last reply longer than M is malformed on either bus
pub reply_formed_long : (bus : Bus) (M : ℕ) (last : List ℕ) → M < length last → reply_formed bus M last ≡ false
reply_formed_long I2c M last h = lt-leb (length last) M h
reply_formed_long Rs485 M last h = rw (lt-leb (length last) M h)
