-- `wrongboards::reads_wrong` meets its contract: of the fresh board a read at 8 gets number 0; after a version request it gets no byte.
use Rattle.std.proofs.Common.{◌≡◌, refl, ap, List, [], ◌∷◌, ℕ, arith, length}
use Rattle.rules.specs.declared.kinds.Bus.TheVariants.{I2c}
use Rattle.ledger.specs.Calls.{Read}
use Rattle.demands.specs.Acceptance.{Demand2}
use Rattle.wrongboards.specs.WrongBoards.{reads_as}
use Rattle.wrongboards.proofs.Computing.{computing}
use Rattle.wrongboards.proofs.Cases.{small, zeros, sent, room, buffer}
use Rattle.wrongboards.proofs.reads_wrong.Goals as goal

always : Demand2 (reads_as 0 (λ l. l)) → ⊥
unfolding computing
always h =
    let right = h (small I2c 64) (zeros 64) (Read 8 128 ∷ []) refl room in
    let number : ◌≡◌ {A = ℕ} 0 1 = right.0.silence buffer refl in
    omega arith

empty : Demand2 (reads_as 0 (λ l. [])) → ⊥
unfolding computing
empty h =
    let right = h (small I2c 64) (zeros 64) (sent I2c 0x00 [] ∷ Read 8 128 ∷ []) refl room in
    let bytes : ◌≡◌ {A = ℕ} 0 5 = ap (λ (r : List ℕ). length r) (right.1.0.hands_out buffer refl).1 in
    omega arith

pub returns : goal.returns
returns c = (always, empty)
