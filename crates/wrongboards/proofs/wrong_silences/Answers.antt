-- `wrongboards::wrong_silences` meets its contract: a foreign request gets 1, two zeros get 17, a version request to all boards gets 18,
-- and so does one to this board after start.
use Rattle.std.proofs.Common.{◌≡◌, refl, [], ◌∷◌, ℕ, ◌≤◌, arith}
use Rattle.rules.specs.declared.kinds.Bus.TheVariants.{Rs485}
use Rattle.rules.specs.Frames.{request}
use Rattle.ledger.specs.Calls.{Frame}
use Rattle.demands.specs.Acceptance.{Demand2}
use Rattle.wrongboards.specs.WrongBoards.{numbers_ignored, sum_first, numbered_so}
use Rattle.wrongboards.proofs.Computing.{computing}
use Rattle.wrongboards.proofs.Cases.{small, zeros, sent, room, buffer}
use Rattle.wrongboards.proofs.wrong_silences.Goals as goal

all_one : Demand2 (numbers_ignored (λ f reason. 1)) → ⊥
unfolding computing
all_one h =
    let right = h (small Rs485 64) (zeros 64) (Frame 0 (request Rs485 20 0x00 []) 128 ∷ []) refl room in
    let number : ◌≡◌ {A = ℕ} 1 18 = (right.0.drops buffer (λ e. omega arith)).0 in
    omega arith

sum_first_lem : Demand2 (numbers_ignored sum_first) → ⊥
unfolding computing
sum_first_lem h =
    let right = h (small Rs485 64) (zeros 64) (Frame 0 (0 ∷ 0 ∷ []) 128 ∷ []) refl room in
    let number : ◌≡◌ {A = ℕ} 17 15 = (right.0.drops buffer (λ e. omega arith)).0 in
    omega arith

general_foreign : Demand2 (numbers_ignored (numbered_so 1 18)) → ⊥
unfolding computing
general_foreign h =
    let right = h (small Rs485 64) (zeros 64) (Frame 0 (request Rs485 0 0x00 []) 128 ∷ []) refl room in
    let number : 18 ≤ 1 = right.0.takes buffer refl in
    omega arith

numbered_running : Demand2 (numbers_ignored (numbered_so 18 1)) → ⊥
unfolding computing
numbered_running h =
    let right = h (small Rs485 64) (zeros 64) (sent Rs485 0x05 [] ∷ sent Rs485 0x00 [] ∷ []) refl room in
    let number : 18 ≤ 1 = right.1.0.takes buffer refl in
    omega arith

pub returns : goal.returns
returns c = (all_one, sum_first_lem, general_foreign, numbered_running)
