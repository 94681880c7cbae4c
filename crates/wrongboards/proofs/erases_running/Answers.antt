-- `wrongboards::erases_running` meets its contract: a version request after start gets 1, and flash has no byte.
use Rattle.std.proofs.Common.{◌≡◌, refl, ap, List, [], ◌∷◌, ℕ, arith, length}
use Rattle.rules.specs.declared.kinds.Bus.TheVariants.{I2c}
use Rattle.demands.specs.Acceptance.{Demand2}
use Rattle.wrongboards.specs.WrongBoards.{erases_running}
use Rattle.wrongboards.proofs.Computing.{computing}
use Rattle.wrongboards.proofs.Cases.{small, zeros, sent, room, buffer}
use Rattle.wrongboards.proofs.erases_running.Goals as goal

refused : Demand2 erases_running → ⊥
unfolding computing
refused h =
    let right = h (small I2c 64) (zeros 64) (sent I2c 0x05 [] ∷ sent I2c 0x00 [] ∷ []) refl room in
    let bytes : ◌≡◌ {A = ℕ} 0 64 = ap (λ (d : List ℕ). length d) (right.1.0.started buffer refl refl).1.flash_is in
    omega arith

pub returns : goal.returns
returns c = refused
