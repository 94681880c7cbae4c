-- `wrongboards::first_page_only` meets its contract: after an upload of 65 bytes 7, flash has 0 where the last of them belongs.
use Rattle.std.proofs.Common.{◌≡◌, refl, [], ◌∷◌, ℕ, ◌<◌, arith, replicate}
use Rattle.rules.specs.declared.kinds.Bus.TheVariants.{I2c}
use Rattle.ledger.specs.Claim.{Demand3}
use Rattle.wrongboards.specs.WrongBoards.{first_page_only}
use Rattle.wrongboards.proofs.Computing.{computing}
use Rattle.wrongboards.proofs.Cases.{small, zeros, write, finalize}
use Rattle.wrongboards.proofs.first_page_only.Goals as goal

refused : Demand3 first_page_only → ⊥
unfolding computing
refused h =
    let holds = h (small I2c 128) (zeros 128) (write I2c 0 (replicate 65 7) ∷ finalize I2c ∷ []) in
    let last : 64 < 65 = omega arith in
    let stands : ◌≡◌ {A = ℕ} 0 7 = (holds.each.1.0.finished refl).bytes_stand 64 last in
    omega arith

pub returns : goal.returns
returns c = refused
