-- `wrongboards::finalizes_on_start` meets its contract: after the byte 7 and start, flash has 7 where the ledger still has 0.
use Rattle.std.proofs.Common.{◌≡◌, ap, List, [], ◌∷◌, ℕ, arith, get_or}
use Rattle.rules.specs.declared.kinds.Bus.TheVariants.{I2c}
use Rattle.ledger.specs.Claim.{Demand3}
use Rattle.wrongboards.specs.WrongBoards.{finalizes_on_start}
use Rattle.wrongboards.proofs.Computing.{computing}
use Rattle.wrongboards.proofs.Cases.{small, zeros, sent, write}
use Rattle.wrongboards.proofs.finalizes_on_start.Goals as goal

refused : Demand3 finalizes_on_start → ⊥
unfolding computing
refused h =
    let holds = h (small I2c 64) (zeros 64) (write I2c 0 (7 ∷ []) ∷ sent I2c 0x05 [] ∷ []) in
    let copied : ◌≡◌ {A = ℕ} 7 0 = ap (λ (d : List ℕ). get_or d 0 0) holds.each.1.0.flash_is in
    omega arith

pub returns : goal.returns
returns c = refused
