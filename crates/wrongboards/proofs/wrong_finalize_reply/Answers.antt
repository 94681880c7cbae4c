-- `wrongboards::wrong_finalize_reply` meets its contract: the reply of the fresh board has its length byte 2 and its check sum at 4.
use Rattle.std.proofs.Common.{◌≡◌, refl, ap, List, [], ◌∷◌, ℕ, arith, get_or, set}
use Rattle.rules.specs.declared.kinds.Bus.TheVariants.{I2c}
use Rattle.demands.specs.Acceptance.{Demand2}
use Rattle.wrongboards.specs.WrongBoards.{changes_reply}
use Rattle.wrongboards.proofs.Computing.{computing}
use Rattle.wrongboards.proofs.Cases.{small, zeros, finalize, room, buffer}
use Rattle.wrongboards.proofs.wrong_finalize_reply.Goals as goal

long : Demand2 (changes_reply 0x07 (λ r. set r 1 3)) → ⊥
unfolding computing
long h =
    let right = h (small I2c 64) (zeros 64) (finalize I2c ∷ []) refl room in
    let count : ◌≡◌ {A = ℕ} 3 2 = ap (λ (r : List ℕ). get_or r 1 0) (right.0.finalizes buffer refl refl refl).reply_is in
    omega arith

unsummed : Demand2 (changes_reply 0x07 (λ r. set r 4 0)) → ⊥
unfolding computing
unsummed h =
    let right = h (small I2c 64) (zeros 64) (finalize I2c ∷ []) refl room in
    let sum : ◌≡◌ {A = ℕ} 0 _ = ap (λ (r : List ℕ). get_or r 4 0) (right.0.finalizes buffer refl refl refl).reply_is in
    omega arith

pub returns : goal.returns
returns c = (long, unsummed)
