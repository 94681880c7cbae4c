-- `wrongboards::ok_to_all` meets its contract: a byte at 5, where 0 is next, gets status 0.
use Rattle.std.proofs.Common.{◌≡◌, refl, ap, List, [], ◌∷◌, ℕ, arith, get_or}
use Rattle.rules.specs.declared.kinds.Bus.TheVariants.{I2c}
use Rattle.demands.specs.Acceptance.{Demand2}
use Rattle.wrongboards.specs.WrongBoards.{ok_to_all}
use Rattle.wrongboards.proofs.Computing.{computing}
use Rattle.wrongboards.proofs.Cases.{small, zeros, write, room, buffer}
use Rattle.wrongboards.proofs.ok_to_all.Goals as goal

refused : Demand2 ok_to_all → ⊥
unfolding computing
refused h =
    let right = h (small I2c 64) (zeros 64) (write I2c 5 (7 ∷ []) ∷ []) refl room in
    let status : ◌≡◌ {A = ℕ} 0 5 = ap (λ (reply : List ℕ). get_or reply 0 0) (right.0.refuses buffer refl refl refl).0.reply_is in
    omega arith

pub returns : goal.returns
returns c = refused
