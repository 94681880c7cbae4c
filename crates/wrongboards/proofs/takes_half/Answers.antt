-- `wrongboards::takes_half` meets its contract: of 65 bytes 7 written at 0, where S is 64, the first 64 are in flash though the write is
-- refused.
use Rattle.std.proofs.Common.{◌≡◌, refl, ap, List, [], ◌∷◌, ℕ, arith, get_or, replicate}
use Rattle.rules.specs.declared.kinds.Bus.TheVariants.{I2c}
use Rattle.ledger.specs.Calls.{Call}
use Rattle.ledger.specs.Claim.{Demand3}
use Rattle.demands.specs.Acceptance.{Demand2}
use Rattle.wrongboards.specs.WrongBoards.{takes_half}
use Rattle.wrongboards.proofs.Computing.{computing}
use Rattle.wrongboards.proofs.Cases.{small, zeros, write, room, buffer}
use Rattle.wrongboards.proofs.takes_half.Goals as goal

past : List Call
past = write I2c 0 (replicate 65 7) ∷ []

refused_2 : Demand2 takes_half → ⊥
unfolding computing past
refused_2 h =
    let right = h (small I2c 64) (zeros 64) past refl room in
    let kept : ◌≡◌ {A = ℕ} 7 0 = ap (λ (d : List ℕ). get_or d 0 0) (right.0.refuses buffer refl refl refl).1.flash_is in
    omega arith

refused_3 : Demand3 takes_half → ⊥
unfolding computing past
refused_3 h =
    let copied : ◌≡◌ {A = ℕ} 7 0 = ap (λ (d : List ℕ). get_or d 0 0) (h (small I2c 64) (zeros 64) past).each.0.flash_is in
    omega arith

pub returns : goal.returns
returns c = (refused_2, refused_3)
