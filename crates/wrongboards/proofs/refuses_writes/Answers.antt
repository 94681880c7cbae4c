-- `wrongboards::refuses_writes` meets its contract: a first byte at 0 gets status 5.
use Rattle.std.proofs.Common.{◌≡◌, refl, ap, List, [], ◌∷◌, ℕ, arith, get_or}
use Rattle.rules.specs.declared.kinds.Bus.TheVariants.{I2c}
use Rattle.demands.specs.Acceptance.{Demand2}
use Rattle.wrongboards.specs.WrongBoards.{refuses_writes}
use Rattle.wrongboards.proofs.Computing.{computing}
use Rattle.wrongboards.proofs.Cases.{small, zeros, write, room, buffer}
use Rattle.wrongboards.proofs.refuses_writes.Goals as goal

refused : Demand2 refuses_writes → ⊥
unfolding computing
refused h =
    let right = h (small I2c 64) (zeros 64) (write I2c 0 (7 ∷ []) ∷ []) refl room in
    let status : ◌≡◌ {A = ℕ} 5 0 = ap (λ (reply : List ℕ). get_or reply 0 0) (right.0.accepts buffer refl refl refl).reply_is in
    omega arith

pub returns : goal.returns
returns c = refused
