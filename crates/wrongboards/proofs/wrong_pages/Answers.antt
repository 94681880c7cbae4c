-- `wrongboards::wrong_pages` meets its contract: 64 bytes 7 stand in flash before the page of 128 is full, a version request is answered
-- where S or the page is out of range, and a byte at 64 gets number 4.
use Rattle.std.proofs.Common.{◌≡◌, refl, ap, cond, List, [], ◌∷◌, ℕ, ◌≤◌, arith, eqb, get_or, replicate}
use Rattle.rules.specs.declared.kinds.Bus.TheVariants.{I2c}
use Rattle.ledger.specs.Claim.{Demand3}
use Rattle.demands.specs.Acceptance.{Demand2}
use Rattle.demands.specs.Replies.{EveryReply}
use Rattle.wrongboards.specs.Variations.{paged_by}
use Rattle.wrongboards.specs.WrongBoards.{holds63}
use Rattle.wrongboards.proofs.Computing.{computing}
use Rattle.wrongboards.proofs.FirstAnswer.{first-number}
use Rattle.wrongboards.proofs.Cases.{paged, zeros, write, sent, buffer}
use Rattle.wrongboards.proofs.wrong_pages.Goals as goal

commits-at_64 : Demand3 (paged_by (λ page. 64)) → ⊥
unfolding computing
commits-at_64 h =
    let holds = h (paged 128 I2c 128) (zeros 128) (write I2c 0 (replicate 64 7) ∷ []) in
    let byte : ◌≡◌ {A = ℕ} 7 0 = ap (λ (l : List ℕ). get_or l 0 0) holds.each.0.flash_is in
    omega arith

takes_192 : EveryReply (paged_by (λ page. 64)) → ⊥
unfolding computing
takes_192 h =
    let number : ◌≡◌ {A = ℕ} 0 2 = first-number (h (paged 128 I2c 192) (zeros 192) (sent I2c 0x00 [] ∷ [])) in
    omega arith

takes_96 : EveryReply (paged_by (λ page. cond (eqb page 96) 64 page)) → ⊥
unfolding computing
takes_96 h =
    let number : ◌≡◌ {A = ℕ} 0 2 = first-number (h (paged 96 I2c 192) (zeros 192) (sent I2c 0x00 [] ∷ [])) in
    omega arith

holds_63 : Demand2 holds63 → ⊥
unfolding computing
holds_63 h =
    let room : 128 ≤ 128 = omega arith in
    let right = h (paged 128 I2c 128) (zeros 128) (write I2c 0 (replicate 64 7) ∷ write I2c 64 (7 ∷ []) ∷ []) refl room in
    let number : ◌≡◌ {A = ℕ} 4 0 = (right.1.0.accepts buffer refl refl refl).number_is in
    omega arith

pub returns : goal.returns
returns c = (commits-at_64, takes_192, takes_96, holds_63)
