-- `wrongboards::writes_outside` meets its contract: a finalize over a lent flash of one byte more.
use Rattle.std.proofs.Common.{◌≡◌, [], ◌∷◌, ℕ, arith, inr}
use Rattle.rules.specs.declared.kinds.Bus.TheVariants.{I2c}
use Rattle.ledger.specs.Claim.{Demand3}
use Rattle.wrongboards.specs.WrongBoards.{writes_outside}
use Rattle.wrongboards.proofs.Computing.{computing}
use Rattle.wrongboards.proofs.Cases.{small, zeros, finalize}
use Rattle.wrongboards.proofs.writes_outside.Goals as goal

refused : Demand3 writes_outside → ⊥
unfolding computing
refused h =
    let holds = h (small I2c 64) (zeros 65) (finalize I2c ∷ []) in
    let byte : ◌≡◌ {A = ℕ} 1 0 = holds.outside.0.bytes_kept 64 (inr (omega arith)) in
    omega arith

pub returns : goal.returns
returns c = refused
