-- `wrongboards::ignores_start` meets its contract: a version request after start gets number 0.
use Rattle.std.proofs.Common.{◌≡◌, refl, [], ◌∷◌, ℕ, arith}
use Rattle.rules.specs.declared.kinds.Bus.TheVariants.{I2c}
use Rattle.demands.specs.Acceptance.{Demand2}
use Rattle.wrongboards.specs.WrongBoards.{ignores_start}
use Rattle.wrongboards.proofs.Computing.{computing}
use Rattle.wrongboards.proofs.Cases.{small, zeros, sent, room, buffer}
use Rattle.wrongboards.proofs.ignores_start.Goals as goal

refused : Demand2 ignores_start → ⊥
unfolding computing
refused h =
    let right = h (small I2c 64) (zeros 64) (sent I2c 0x05 [] ∷ sent I2c 0x00 [] ∷ []) refl room in
    let number : ◌≡◌ {A = ℕ} 0 1 = (right.1.0.started buffer refl refl).0 in
    omega arith

pub returns : goal.returns
returns c = refused
