-- `wrongboards::refuses_free_addresses` meets its contract: set address to 247 on RS485, and to 119 on I²C, gets status 5.
use Rattle.std.proofs.Common.{◌≡◌, refl, ap, List, [], ◌∷◌, ℕ, arith, ltb, get_or}
use Rattle.rules.specs.declared.kinds.Bus.TheVariants.{I2c, Rs485}
use Rattle.demands.specs.Acceptance.{Demand2}
use Rattle.wrongboards.specs.WrongBoards.{refuses_addresses}
use Rattle.wrongboards.proofs.Cases.{small, zeros, sent, room, buffer}
use Rattle.wrongboards.proofs.Computing.{computing}
use Rattle.wrongboards.proofs.refuses_free_addresses.Goals as goal

over_246 : Demand2 (refuses_addresses (λ bus a. ltb 246 a)) → ⊥
unfolding computing
over_246 h =
    let right = h (small Rs485 64) (zeros 64) (sent Rs485 0x01 (247 ∷ 1 ∷ []) ∷ []) refl room in
    let status : ◌≡◌ {A = ℕ} 5 0 = ap (λ (reply : List ℕ). get_or reply 1 0) (right.0.moves buffer refl refl refl refl).0.reply_is in
    omega arith

over_118 : Demand2 (refuses_addresses (λ bus a. ltb 118 a)) → ⊥
unfolding computing
over_118 h =
    let right = h (small I2c 64) (zeros 64) (sent I2c 0x01 (119 ∷ 1 ∷ []) ∷ []) refl room in
    let status : ◌≡◌ {A = ℕ} 5 0 = ap (λ (reply : List ℕ). get_or reply 0 0) (right.0.moves buffer refl refl refl refl).0.reply_is in
    omega arith

pub returns : goal.returns
returns c = (over_246, over_118)
