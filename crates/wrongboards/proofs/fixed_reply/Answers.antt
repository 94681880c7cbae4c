-- `wrongboards::fixed_reply` meets its contract: the version request asks for 2, 2 and a read of flash that is 0 for 0, 0.
use Rattle.std.proofs.Common.{◌≡◌, refl, sym, ap, ◌∙◌, List, [], ◌∷◌, ℕ, arith, get_or}
use Rattle.rules.specs.declared.kinds.Bus.TheVariants.{I2c}
use Rattle.rules.specs.Frames.{reply}
use Rattle.rules.specs.Responses.{ok}
use Rattle.demands.specs.Acceptance.{Demand2}
use Rattle.wrongboards.specs.WrongBoards.{fixed_reply}
use Rattle.wrongboards.proofs.Computing.{computing}
use Rattle.wrongboards.proofs.Cases.{small, zeros, sent, room, buffer}
use Rattle.wrongboards.proofs.fixed_reply.Goals as goal

refused : (bytes : List ℕ) → Demand2 (fixed_reply bytes) → ⊥
unfolding computing
refused bytes h =
    let right = h (small I2c 64) (zeros 64) (sent I2c 0x00 [] ∷ sent I2c 0x08 (0 ∷ 0 ∷ 2 ∷ []) ∷ []) refl room in
    let version : bytes ≡ reply I2c 8 ok (2 ∷ 2 ∷ []) = (right.0.versions buffer refl refl refl).reply_is in
    let read : bytes ≡ reply I2c 8 ok (0 ∷ 0 ∷ []) = (right.1.0.reads buffer refl refl refl refl).reply_is in
    let result : ◌≡◌ {A = ℕ} 2 0 = ap (λ (r : List ℕ). get_or r 2 0) (sym version ∙ read) in
    omega arith

pub returns : goal.returns
returns c = refused
