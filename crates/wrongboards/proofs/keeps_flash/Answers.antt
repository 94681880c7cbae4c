-- `wrongboards::keeps_flash` meets its contract: after an upload of the byte 7, flash has 0 there.
use Rattle.std.proofs.Common.{◌≡◌, refl, [], ◌∷◌, ℕ, ◌<◌, arith}
use Rattle.rules.specs.declared.kinds.Bus.TheVariants.{I2c}
use Rattle.ledger.specs.Claim.{Demand3}
use Rattle.wrongboards.specs.WrongBoards.{keeps_flash}
use Rattle.wrongboards.proofs.Computing.{computing}
use Rattle.wrongboards.proofs.Cases.{small, zeros, write, finalize}
use Rattle.wrongboards.proofs.keeps_flash.Goals as goal

refused : Demand3 keeps_flash → ⊥
unfolding computing
refused h =
    let holds = h (small I2c 64) (zeros 64) (write I2c 0 (7 ∷ []) ∷ finalize I2c ∷ []) in
    let one : 0 < 1 = omega arith in
    let stands : ◌≡◌ {A = ℕ} 0 7 = (holds.each.1.0.finished refl).bytes_stand 0 one in
    omega arith

pub returns : goal.returns
returns c = refused
