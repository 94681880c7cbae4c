-- `wrongboards::pads_last_page` meets its contract: after an upload of one byte, the byte behind it has become 0xFF.
use Rattle.std.proofs.Common.{◌≡◌, refl, inr, [], ◌∷◌, ℕ, ◌≤◌, arith}
use Rattle.rules.specs.declared.kinds.Bus.TheVariants.{I2c}
use Rattle.ledger.specs.Claim.{Demand3}
use Rattle.wrongboards.specs.WrongBoards.{pads_last_page}
use Rattle.wrongboards.proofs.Computing.{computing}
use Rattle.wrongboards.proofs.Cases.{small, zeros, write, finalize}
use Rattle.wrongboards.proofs.pads_last_page.Goals as goal

refused : Demand3 pads_last_page → ⊥
unfolding computing
refused h =
    let holds = h (small I2c 64) (zeros 64) (write I2c 0 (7 ∷ []) ∷ finalize I2c ∷ []) in
    let behind : 1 ≤ 1 = omega arith in
    let kept : ◌≡◌ {A = ℕ} 255 0 = (holds.each.1.0.finished refl).others_kept 1 (inr behind) in
    omega arith

pub returns : goal.returns
returns c = refused
