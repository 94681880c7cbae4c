-- `wrongboards::counts_writes` meets its contract: after a write at 5, which is refused, the count is 1.
use Rattle.std.proofs.Common.{◌≡◌, refl, [], ◌∷◌, ℕ, arith}
use Rattle.rules.specs.declared.kinds.Bus.TheVariants.{I2c}
use Rattle.demands.specs.Acceptance.{Demand2}
use Rattle.wrongboards.specs.WrongBoards.{counts_writes}
use Rattle.wrongboards.proofs.Computing.{computing}
use Rattle.wrongboards.proofs.Cases.{small, zeros, write, room, buffer}
use Rattle.wrongboards.proofs.counts_writes.Goals as goal

refused : Demand2 counts_writes → ⊥
unfolding computing
refused h =
    let right = h (small I2c 64) (zeros 64) (write I2c 5 (7 ∷ []) ∷ []) refl room in
    let count : ◌≡◌ {A = ℕ} 1 0 = (right.0.refuses buffer refl refl refl).1.count_is in
    omega arith

pub returns : goal.returns
returns c = refused
