-- `wrongboards::refuses_finalizes` meets its contract: a finalize of the fresh board gets status 5.
use Rattle.std.proofs.Common.{◌≡◌, refl, ap, List, [], ◌∷◌, ℕ, arith, get_or}
use Rattle.rules.specs.declared.kinds.Bus.TheVariants.{I2c}
use Rattle.demands.specs.Acceptance.{Demand2}
use Rattle.wrongboards.specs.WrongBoards.{refuses_finalizes}
use Rattle.wrongboards.proofs.Computing.{computing}
use Rattle.wrongboards.proofs.Cases.{small, zeros, finalize, room, buffer}
use Rattle.wrongboards.proofs.refuses_finalizes.Goals as goal

refused : Demand2 refuses_finalizes → ⊥
unfolding computing
refused h =
    let right = h (small I2c 64) (zeros 64) (finalize I2c ∷ []) refl room in
    let status : ◌≡◌ {A = ℕ} 5 0 = ap (λ (r : List ℕ). get_or r 0 0) (right.0.finalizes buffer refl refl refl).reply_is in
    omega arith

pub returns : goal.returns
returns c = refused
