-- A board whose last reply says two zeros gets a version request for another board, and then a read.
use Rattle.std.proofs.Common.{◌≡◌, refl, [], ◌∷◌, ℕ, arith}
use Rattle.rules.specs.declared.kinds.Bus.TheVariants.{I2c}
use Rattle.rules.specs.State.{State, fresh, with_last}
use Rattle.rules.specs.Frames.{request, reply}
use Rattle.ledger.specs.Calls.{ruled}
use Rattle.wrongboards.proofs.Cases.{small, zeros}
use Rattle.reset_claims.specs.WrongResets.{EveryReadKnown}
use Rattle.reset_claims.proofs.WrongCases.{computing_reset}
use Rattle.reset_claims.proofs.stale_read_fails.Goals as goal

stale : EveryReadKnown ruled → ⊥
unfolding computing_reset
stale h =
    let stored : State = with_last fresh (reply I2c 8 0 (0 ∷ 0 ∷ [])) in
    let known : ◌≡◌ {A = ℕ} 40 0 =
    h (small I2c 64) stored (zeros 64) 20 (request I2c 20 0x00 []) 128 8 128 refl 0 0 [] refl refl refl in
    omega arith

pub returns : goal.returns
returns c = stale
