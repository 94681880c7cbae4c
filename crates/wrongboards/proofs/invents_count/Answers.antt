-- `wrongboards::invents_count` meets its contract: a finalize of nothing says 1.
use Rattle.std.proofs.Common.{◌≡◌, refl, ap, List, [], ◌∷◌, ℕ, arith, get_or}
use Rattle.rules.specs.declared.kinds.Bus.TheVariants.{I2c}
use Rattle.ledger.specs.Claim.{Demand3}
use Rattle.wrongboards.specs.WrongBoards.{invents_count}
use Rattle.wrongboards.proofs.Computing.{computing}
use Rattle.wrongboards.proofs.Cases.{small, zeros, finalize}
use Rattle.wrongboards.proofs.invents_count.Goals as goal

refused : Demand3 invents_count → ⊥
unfolding computing
refused h =
    let holds = h (small I2c 64) (zeros 64) (finalize I2c ∷ []) in
    let counts : ◌≡◌ {A = ℕ} 1 0 = ap (λ (l : List ℕ). get_or l 1 0) (holds.each.0.finished refl).reply_count in
    omega arith

pub returns : goal.returns
returns c = refused
