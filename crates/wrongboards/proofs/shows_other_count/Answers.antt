-- `wrongboards::shows_other_count` meets its contract: after the byte 7 and a finalize the count is 1, not 0; after the byte 7 alone it is
-- not 2, nor 1.
use Rattle.std.proofs.Common.{◌≡◌, [], ◌∷◌, ℕ, suc, ◌≤◌, arith}
use Rattle.rules.specs.declared.kinds.Bus.TheVariants.{I2c}
use Rattle.ledger.specs.Claim.{Demand3}
use Rattle.wrongboards.specs.WrongBoards.{shows_count}
use Rattle.wrongboards.proofs.Computing.{computing}
use Rattle.wrongboards.proofs.Cases.{small, zeros, write, finalize}
use Rattle.wrongboards.proofs.shows_other_count.Goals as goal

none : Demand3 (shows_count (λ s. 0)) → ⊥
unfolding computing
none h =
    let holds = h (small I2c 64) (zeros 64) (write I2c 0 (7 ∷ []) ∷ finalize I2c ∷ []) in
    let count : ◌≡◌ {A = ℕ} 0 1 = holds.each.1.0.count_is in
    omega arith

over_bytes : Demand3 (shows_count (λ s. suc s.upload.next)) → ⊥
unfolding computing
over_bytes h =
    let holds = h (small I2c 64) (zeros 64) (write I2c 0 (7 ∷ []) ∷ []) in
    let most : 2 ≤ 1 = holds.each.0.count_bytes_holds in
    omega arith

over_pages : Demand3 (shows_count (λ s. s.upload.next)) → ⊥
unfolding computing
over_pages h =
    let holds = h (small I2c 64) (zeros 64) (write I2c 0 (7 ∷ []) ∷ []) in
    let most : 1 ≤ 0 = holds.each.0.count_pages in
    omega arith

pub returns : goal.returns
returns c = (none, over_bytes, over_pages)
