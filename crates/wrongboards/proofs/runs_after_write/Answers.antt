-- `wrongboards::runs_after_write` meets its contract: the second of two bytes in order gets number 1.
use Rattle.std.proofs.Common.{◌≡◌, refl, [], ◌∷◌, ℕ, arith}
use Rattle.rules.specs.declared.kinds.Bus.TheVariants.{I2c}
use Rattle.demands.specs.Acceptance.{Demand2}
use Rattle.wrongboards.specs.WrongBoards.{runs_after_write}
use Rattle.wrongboards.proofs.Computing.{computing}
use Rattle.wrongboards.proofs.Cases.{small, zeros, write, room, buffer}
use Rattle.wrongboards.proofs.runs_after_write.Goals as goal

refused : Demand2 runs_after_write → ⊥
unfolding computing
refused h =
    let right = h (small I2c 64) (zeros 64) (write I2c 0 (7 ∷ []) ∷ write I2c 1 (7 ∷ []) ∷ []) refl room in
    let number : ◌≡◌ {A = ℕ} 1 0 = (right.1.0.accepts buffer refl refl refl).number_is in
    omega arith

pub returns : goal.returns
returns c = refused
