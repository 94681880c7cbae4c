-- Each wrong board gets the reset on I²C: a running one stays running, one with an upload keeps it, one with a flash loses it.
use Rattle.std.proofs.Common.{◌≡◌, refl, sym, ap, Bool, true, false, [], ℕ, arith, length}
use mathlib.Core.Bool.{false≢true}
use Rattle.rules.specs.declared.kinds.Bus.TheVariants.{I2c}
use Rattle.rules.specs.State.{State, fresh, with_running, with_upload}
use Rattle.ledger.specs.Calls.{Reaction}
use Rattle.wrongboards.proofs.Cases.{small, zeros}
use Rattle.reset_claims.specs.Running.{ResetsBoards}
use Rattle.reset_claims.specs.WrongResets.{ignores_reset, resets_address, erases_flash}
use Rattle.reset_claims.proofs.WrongCases.{computing_reset, zero_input}
use Rattle.reset_claims.proofs.wrong_resets.Goals as goal

still_running : ResetsBoards ignores_reset → ⊥
unfolding computing_reset
still_running h =
    let after = h zero_input (small I2c 64) (with_running fresh true) (zeros 64) 0 128 refl refl refl (omega arith) in
    let stopped : ◌≡◌ {A = Bool} true false = ap (λ (r : Reaction State). r.state.running) after in
    false≢true (sym stopped)

upload_kept : ResetsBoards resets_address → ⊥
unfolding computing_reset
upload_kept h =
    let begun : State = with_upload fresh (record { next = 64; waiting = []; count = 1 }) in
    let after = h zero_input (small I2c 64) begun (zeros 64) 0 128 refl refl refl (omega arith) in
    let next : ◌≡◌ {A = ℕ} 64 0 = ap (λ (r : Reaction State). r.state.upload.next) after in
    omega arith

flash_lost : ResetsBoards erases_flash → ⊥
unfolding computing_reset
flash_lost h =
    let after = h zero_input (small I2c 64) fresh (zeros 64) 0 128 refl refl refl (omega arith) in
    let bytes : ◌≡◌ {A = ℕ} 0 64 = ap (λ (r : Reaction State). length r.flash) after in
    omega arith

pub returns : goal.returns
returns c = (still_running, upload_kept, flash_lost)
