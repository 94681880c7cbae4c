-- `wrongboards::refuses_foreign_type` meets its contract: set address to 0 with type 9 on a board of type 1 gets number 0.
use Rattle.std.proofs.Common.{◌≡◌, refl, [], ◌∷◌, ℕ, arith}
use Rattle.rules.specs.declared.kinds.Bus.TheVariants.{Rs485}
use Rattle.demands.specs.Acceptance.{Demand2}
use Rattle.wrongboards.specs.WrongBoards.{refuses_foreign_type}
use Rattle.wrongboards.proofs.Cases.{small, zeros, sent, room, buffer}
use Rattle.wrongboards.proofs.Computing.{computing}
use Rattle.wrongboards.proofs.refuses_foreign_type.Goals as goal

refused : Demand2 refuses_foreign_type → ⊥
unfolding computing
refused h =
    let right = h (small Rs485 64) (zeros 64) (sent Rs485 0x01 (0 ∷ 9 ∷ []) ∷ []) refl room in
    let number : ◌≡◌ {A = ℕ} 0 1 = (right.0.other_type buffer refl refl refl refl).0 in
    omega arith

pub returns : goal.returns
returns c = refused
