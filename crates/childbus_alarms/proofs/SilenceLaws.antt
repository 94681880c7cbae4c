-- An address over 255 counts as 255 does: on I²C both are foreign, and RS485 does not look at it.
use mathlib.Core.Path.{◌≡◌, refl}
use mathlib.Core.Bool.{Bool}
use mathlib.Core.List.{List}
use Prim.Native.Nat.{ℕ, ◌<◌}
use native.Mathlib.Omega.{arith}
use lib.Dec.{eqb, ltb}
use borrow.Author.Tests.{ne_eqb, le-ltb, ltb-true}
use Rattle.rules.specs.declared.kinds.Bus.{Bus}
use Rattle.rules.specs.declared.kinds.Bus.TheVariants.{I2c, Rs485}
use Rattle.rules.specs.declared.kinds.Address.{Address}
use Rattle.rules.specs.Frames.{addressed, framing, verdict}
use Rattle.laws.proofs.TestLaws.{by_test}
use Rattle.fields.specs.Fields.{clipped}

zero_clipped : (a : ℕ) → eqb (clipped a) 0 ≡ eqb a 0
zero_clipped a =
    by_test (ltb 255 a) (λ e. let far : 255 < a = ltb-true 255 a e in rw (e, ne_eqb a 0 (λ q. omega arith))) (λ e. rw e)

addressed_clipped : (own : Address) (a : ℕ) → addressed I2c own (clipped a) ≡ addressed I2c own a
unfolding addressed
addressed_clipped own a =
    by_test (ltb 255 a)
    (λ e. let far : 255 < a = ltb-true 255 a e in rw (e, ne_eqb a 0 (λ q. omega arith), le-ltb a 128 (omega arith)))
    (λ e. rw e)

pub verdict_clipped : (bus : Bus) (M : ℕ) (running : Bool) (own : Address) (a : ℕ) (f : List ℕ)
    → verdict bus M running own (clipped a) f ≡ verdict bus M running own a f
unfolding verdict framing
verdict_clipped I2c M running own a f = rw (zero_clipped a, addressed_clipped own a)
verdict_clipped Rs485 M running own a f = refl
