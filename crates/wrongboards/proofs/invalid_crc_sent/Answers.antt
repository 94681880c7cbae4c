-- `wrongboards::invalid_crc_sent` meets its contract: a damaged version request gets number 0.
use Rattle.std.proofs.Common.{◌≡◌, refl, [], ◌∷◌, ℕ, arith}
use Rattle.ledger.specs.Calls.{Frame}
use Rattle.rules.specs.declared.kinds.Bus.TheVariants.{Rs485}
use Rattle.demands.specs.Acceptance.{Demand2}
use Rattle.wrongboards.specs.WrongBoards.{invalid_crc_sent}
use Rattle.wrongboards.proofs.Computing.{computing}
use Rattle.wrongboards.proofs.Cases.{small, zeros, room, buffer}
use Rattle.wrongboards.proofs.invalid_crc_sent.Goals as goal

refused : Demand2 invalid_crc_sent → ⊥
unfolding computing
refused h =
    let right = h (small Rs485 64) (zeros 64) (Frame 8 (8 ∷ 0 ∷ 0 ∷ 0 ∷ []) 128 ∷ []) refl room in
    let number : ◌≡◌ {A = ℕ} 0 17 = (right.0.drops buffer (λ e. omega arith)).0 in
    omega arith

pub returns : goal.returns
returns c = refused
