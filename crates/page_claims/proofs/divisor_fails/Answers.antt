-- `page_claims::divisor_fails` meets its contract: 70 waiting bytes are well formed under 128 bytes, and malformed under 64.
use Rattle.std.proofs.Common.{◌≡◌, refl, Bool, true, false}
use mathlib.Core.Bool.{false≢true}
use Rattle.rules.specs.declared.kinds.Bus.TheVariants.{I2c}
use Rattle.wrongboards.proofs.Computing.{computing}
use Rattle.wrongboards.proofs.Cases.{paged}
use Rattle.page_claims.specs.Pages.{DivisorTakes}
use Rattle.page_claims.proofs.WrongCases.{state_with}
use Rattle.page_claims.proofs.divisor_fails.Goals as goal

refused : DivisorTakes → ⊥
unfolding computing
refused h =
    let formed : ◌≡◌ {A = Bool} false true = h (paged 128 I2c 128) 64 (state_with 70 70) refl refl in
    false≢true formed

pub returns : goal.returns
returns c = refused
