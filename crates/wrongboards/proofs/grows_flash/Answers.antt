-- `wrongboards::grows_flash` meets its contract: 64 bytes of flash are 65 after a finalize, or after a version request.
use Rattle.std.proofs.Common.{◌≡◌, refl, [], ◌∷◌, ℕ, arith}
use Rattle.rules.specs.declared.kinds.Bus.TheVariants.{I2c}
use Rattle.ledger.specs.Claim.{Demand3}
use Rattle.wrongboards.specs.WrongBoards.{grows_flash}
use Rattle.wrongboards.proofs.Computing.{computing}
use Rattle.wrongboards.proofs.Cases.{small, zeros, sent, finalize}
use Rattle.wrongboards.proofs.grows_flash.Goals as goal

finalized : Demand3 (grows_flash 0x07) → ⊥
unfolding computing
finalized h =
    let holds = h (small I2c 64) (zeros 64) (finalize I2c ∷ []) in
    let bytes : ◌≡◌ {A = ℕ} 65 64 = (holds.each.0.finished refl).length_kept in
    omega arith

asked : Demand3 (grows_flash 0x00) → ⊥
unfolding computing
asked h =
    let holds = h (small I2c 64) (zeros 64) (sent I2c 0x00 [] ∷ []) in
    let bytes : ◌≡◌ {A = ℕ} 65 64 = holds.outside.0.length_kept in
    omega arith

pub returns : goal.returns
returns c = (finalized, asked)
