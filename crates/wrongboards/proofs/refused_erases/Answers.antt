-- `wrongboards::refused_erases` meets its contract: a version request with no room for its reply.
use Rattle.std.proofs.Common.{◌≡◌, ap, List, [], ◌∷◌, ℕ, arith, length}
use Rattle.rules.specs.declared.kinds.Bus.TheVariants.{I2c}
use Rattle.ledger.specs.Calls.{Frame}
use Rattle.demands.specs.Untouched.{Demand1}
use Rattle.wrongboards.specs.WrongBoards.{refused_erases}
use Rattle.wrongboards.proofs.Computing.{computing}
use Rattle.wrongboards.proofs.Cases.{small, zeros}
use Rattle.wrongboards.proofs.refused_erases.Goals as goal

refused : Demand1 refused_erases → ⊥
unfolding computing
refused h =
    let kept = h (small I2c 64) (zeros 64) (Frame 8 (0x00 ∷ 0xF3 ∷ []) 0 ∷ []) in
    let bytes : ◌≡◌ {A = ℕ} 0 64 = ap (λ (d : List ℕ). length d) (kept.0.refused (omega arith)).flash_is in
    omega arith

pub returns : goal.returns
returns c = refused
