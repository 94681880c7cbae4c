-- `wrongboards::takes_reserved` meets its contract: set address to 0, to 128, which is 0 without its top bit, and to 7.
use Rattle.std.proofs.Common.{◌≡◌, Bool, true, false, [], ◌∷◌, ltb}
use mathlib.Core.Bool.{false≢true}
use Rattle.rules.specs.declared.kinds.Bus.TheVariants.{I2c}
use Rattle.rules.specs.Commands.{reserved}
use Rattle.address_claims.specs.Addresses.{NeverReserved}
use Rattle.wrongboards.specs.WrongBoards.{refuses_addresses}
use Rattle.wrongboards.proofs.Cases.{small, zeros, sent}
use Rattle.wrongboards.proofs.Computing.{computing}
use Rattle.wrongboards.proofs.takes_reserved.Goals as goal

none_refused : NeverReserved (refuses_addresses (λ bus a. false)) (λ s. s.address) → ⊥
unfolding computing
none_refused h =
    let kept : ◌≡◌ {A = Bool} false true = h (small I2c 64) (zeros 64) (sent I2c 0x01 (0 ∷ 1 ∷ []) ∷ []) in
    false≢true kept

top_bit_tested : NeverReserved (refuses_addresses reserved) (λ s. s.address) → ⊥
unfolding computing
top_bit_tested h =
    let kept : ◌≡◌ {A = Bool} false true = h (small I2c 64) (zeros 64) (sent I2c 0x01 (128 ∷ 1 ∷ []) ∷ []) in
    false≢true kept

seven_taken : NeverReserved (refuses_addresses (λ bus a. ltb a 7)) (λ s. s.address) → ⊥
unfolding computing
seven_taken h =
    let kept : ◌≡◌ {A = Bool} false true = h (small I2c 64) (zeros 64) (sent I2c 0x01 (7 ∷ 1 ∷ []) ∷ []) in
    false≢true kept

pub returns : goal.returns
returns c = (none_refused, top_bit_tested, seven_taken)
