-- The version request at 8 on I²C, and a read after it: the version rule answers 40, not 0.
use Rattle.std.proofs.Common.{◌≡◌, refl, [], ℕ, arith}
use Rattle.rules.specs.declared.kinds.Bus.TheVariants.{I2c}
use Rattle.rules.specs.State.{fresh}
use Rattle.rules.specs.Frames.{request}
use Rattle.wrongboards.proofs.Cases.{small, zeros}
use Rattle.reset_claims.specs.Running.{BootloaderKnown}
use Rattle.reset_claims.specs.WrongResets.{answers_zero, reads_zero}
use Rattle.reset_claims.proofs.WrongCases.{computing_reset}
use Rattle.reset_claims.proofs.wrong_versions.Goals as goal

zero_answered : BootloaderKnown answers_zero → ⊥
unfolding computing_reset
zero_answered h =
    let known : ◌≡◌ {A = ℕ} 40 0 = h.replied (small I2c 64) fresh (zeros 64) 8 (request I2c 8 0x00 []) 128 refl 0 0 [] refl refl refl in
    omega arith

zero_read_lem : BootloaderKnown reads_zero → ⊥
unfolding computing_reset
zero_read_lem h =
    let known : ◌≡◌ {A = ℕ} 40 0 =
    h.read (small I2c 64) fresh (zeros 64) 8 (request I2c 8 0x00 []) 128 8 128 refl refl 0 0 [] refl refl refl in
    omega arith

pub returns : goal.returns
returns c = (zero_answered, zero_read_lem)
