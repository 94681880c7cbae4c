-- `wrongboards::obeys_foreign` meets its contract: a byte 7 written to board 20, and finalized there, changes this flash.
use Rattle.std.proofs.Common.{◌≡◌, refl, ap, List, [], ◌∷◌, ℕ, arith, get_or, inl}
use Rattle.rules.specs.declared.kinds.Bus.TheVariants.{Rs485}
use Rattle.rules.specs.Frames.{request}
use Rattle.ledger.specs.Calls.{Call, Frame}
use Rattle.demands.specs.Untouched.{Demand1}
use Rattle.wrongboards.specs.WrongBoards.{obeys_foreign}
use Rattle.wrongboards.proofs.Computing.{computing}
use Rattle.wrongboards.proofs.Cases.{small, zeros}
use Rattle.wrongboards.proofs.obeys_foreign.Goals as goal

refused : Demand1 obeys_foreign → ⊥
unfolding computing
refused h =
    let foreign : ℕ → List ℕ → Call = λ code arguments. Frame 20 (request Rs485 20 code arguments) 128 in
    let kept = h (small Rs485 64) (zeros 64) (foreign 0x06 (0 ∷ 0 ∷ 7 ∷ []) ∷ foreign 0x07 [] ∷ []) in
    let byte : ◌≡◌ {A = ℕ} 7 0 = ap (λ (d : List ℕ). get_or d 0 0) (kept.1.0.stray (inl refl)).flash_is in
    omega arith

pub returns : goal.returns
returns c = refused
