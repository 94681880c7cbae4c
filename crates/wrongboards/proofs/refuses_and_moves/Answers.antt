-- `wrongboards::refuses_and_moves` meets its contract: set address to 255 leaves it there, and set address to 136 on I²C leaves it at 136.
use Rattle.std.proofs.Common.{◌≡◌, Bool, true, false, [], ◌∷◌}
use mathlib.Core.Bool.{false≢true}
use Rattle.rules.specs.declared.kinds.Bus.TheVariants.{I2c, Rs485}
use Rattle.address_claims.specs.Addresses.{NeverReserved}
use Rattle.wrongboards.specs.WrongBoards.{refuses_and_moves, keeps_top_bit}
use Rattle.wrongboards.proofs.Cases.{small, zeros, sent}
use Rattle.wrongboards.proofs.Computing.{computing}
use Rattle.wrongboards.proofs.refuses_and_moves.Goals as goal

moved : NeverReserved refuses_and_moves (λ s. s.address) → ⊥
unfolding computing
moved h =
    let kept : ◌≡◌ {A = Bool} false true = h (small Rs485 64) (zeros 64) (sent Rs485 0x01 (255 ∷ 1 ∷ []) ∷ []) in
    false≢true kept

top_bit_kept : NeverReserved keeps_top_bit (λ s. s.address) → ⊥
unfolding computing
top_bit_kept h =
    let kept : ◌≡◌ {A = Bool} false true = h (small I2c 64) (zeros 64) (sent I2c 0x01 (136 ∷ 1 ∷ []) ∷ []) in
    false≢true kept

pub returns : goal.returns
returns c = (moved, top_bit_kept)
