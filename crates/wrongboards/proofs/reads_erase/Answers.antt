-- `wrongboards::reads_erase` meets its contract: one read.
use Rattle.std.proofs.Common.{◌≡◌, refl, ap, List, [], ◌∷◌, ℕ, arith, length}
use Rattle.rules.specs.declared.kinds.Bus.TheVariants.{I2c}
use Rattle.ledger.specs.Calls.{Read}
use Rattle.demands.specs.Acceptance.{Demand2}
use Rattle.wrongboards.specs.WrongBoards.{reads_erase}
use Rattle.wrongboards.proofs.Computing.{computing}
use Rattle.wrongboards.proofs.Cases.{small, zeros, room}
use Rattle.wrongboards.proofs.reads_erase.Goals as goal

refused : Demand2 reads_erase → ⊥
unfolding computing
refused h =
    let right = h (small I2c 64) (zeros 64) (Read 8 128 ∷ []) refl room in
    let bytes : ◌≡◌ {A = ℕ} 0 64 = ap (λ (d : List ℕ). length d) right.0.keeps.flash_is in
    omega arith

pub returns : goal.returns
returns c = refused
