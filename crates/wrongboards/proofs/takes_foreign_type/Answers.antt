-- `wrongboards::takes_foreign_type` meets its contract: set address with type 9 on a board of type 1 gets number 0.
use Rattle.std.proofs.Common.{◌≡◌, [], ◌∷◌, ℕ, arith}
use Rattle.rules.specs.declared.kinds.Bus.TheVariants.{I2c}
use Rattle.demands.specs.Replies.{EveryReply}
use Rattle.wrongboards.proofs.FirstAnswer.{first-number}
use Rattle.wrongboards.specs.WrongBoards.{takes_foreign_type}
use Rattle.wrongboards.proofs.Computing.{computing}
use Rattle.wrongboards.proofs.Cases.{small, zeros, sent}
use Rattle.wrongboards.proofs.takes_foreign_type.Goals as goal

refused : EveryReply takes_foreign_type → ⊥
unfolding computing
refused h =
    let number : ◌≡◌ {A = ℕ} 0 1 = first-number (h (small I2c 64) (zeros 64) (sent I2c 0x01 (20 ∷ 9 ∷ []) ∷ [])) in
    omega arith

pub returns : goal.returns
returns c = refused
