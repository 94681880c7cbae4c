-- `wrongboards::silent_faults` meets its contract: a damaged version request to 8 gets number 1.
use Rattle.std.proofs.Common.{◌≡◌, [], ◌∷◌, ℕ, arith}
use Rattle.rules.specs.declared.kinds.Bus.TheVariants.{I2c}
use Rattle.ledger.specs.Calls.{Frame}
use Rattle.demands.specs.Replies.{EveryReply}
use Rattle.wrongboards.proofs.FirstAnswer.{first-number}
use Rattle.wrongboards.specs.WrongBoards.{silent_faults}
use Rattle.wrongboards.proofs.Computing.{computing}
use Rattle.wrongboards.proofs.Cases.{small, zeros}
use Rattle.wrongboards.proofs.silent_faults.Goals as goal

refused : EveryReply silent_faults → ⊥
unfolding computing
refused h =
    let number : ◌≡◌ {A = ℕ} 1 0 = first-number (h (small I2c 64) (zeros 64) (Frame 8 (0 ∷ 0 ∷ []) 128 ∷ [])) in
    omega arith

pub returns : goal.returns
returns c = refused
