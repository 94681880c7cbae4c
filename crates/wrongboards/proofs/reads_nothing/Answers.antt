-- `wrongboards::reads_nothing` meets its contract: after a version request a read at 8 gets number 1.
use Rattle.std.proofs.Common.{◌≡◌, refl, [], ◌∷◌, ℕ, arith}
use Rattle.rules.specs.declared.kinds.Bus.TheVariants.{I2c}
use Rattle.demands.specs.Acceptance.{Demand2}
use Rattle.ledger.specs.Calls.{Read}
use Rattle.wrongboards.specs.WrongBoards.{reads_as}
use Rattle.wrongboards.proofs.Computing.{computing}
use Rattle.wrongboards.proofs.Cases.{small, zeros, sent, room, buffer}
use Rattle.wrongboards.proofs.reads_nothing.Goals as goal

refused : Demand2 (reads_as 1 (λ l. [])) → ⊥
unfolding computing
refused h =
    let right = h (small I2c 64) (zeros 64) (sent I2c 0x00 [] ∷ Read 8 128 ∷ []) refl room in
    let number : ◌≡◌ {A = ℕ} 1 0 = (right.1.0.hands_out buffer refl).0 in
    omega arith

pub returns : goal.returns
returns c = refused
