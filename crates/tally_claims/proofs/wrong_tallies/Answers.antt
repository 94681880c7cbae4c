-- `tally_claims::wrong_tallies` meets its contract: a short frame at 65,535; an I²C read of a stored reply; a foreign frame while running;
-- a reset with counters at their limit.
use Rattle.std.proofs.Common.{◌≡◌, ap, true, [], ◌∷◌, ℕ, arith}
use Rattle.rules.specs.declared.kinds.Bus.TheVariants.{I2c, Rs485}
use Rattle.rules.specs.State.{fresh, with_running, with_last}
use Rattle.rules.specs.Frames.{request, reset_frame}
use Rattle.ledger.specs.Calls.{Frame, Read}
use Rattle.wrongboards.proofs.Computing.{computing}
use Rattle.wrongboards.proofs.Cases.{small, zeros}
use Rattle.tally.specs.declared.Tally.{Tally}
use Rattle.tally.specs.Tally.{cleared}
use Rattle.tally_claims.specs.Counting.{AtMost, full, noted, TallyRight}
use Rattle.tally_claims.specs.WrongTallies.{wraps, counts_reads, counts_running, reset_clears}
use Rattle.tally_claims.proofs.wrong_tallies.Goals as goal

cleared_most : AtMost cleared full
cleared_most = record { short = omega arith; long = omega arith; sum = omega arith; foreign = omega arith; answered = omega arith }

full_most : AtMost full full
full_most = record { short = omega arith; long = omega arith; sum = omega arith; foreign = omega arith; answered = omega arith }

wrapped : TallyRight wraps → ⊥
unfolding computing noted
wrapped h =
    let right = h (small Rs485 64) fresh (zeros 64) full (Frame 0 [] 128 ∷ []) full_most in
    let short : ◌≡◌ {A = ℕ} 0 65535 = ap (λ (t : Tally). t.short) right.counts in
    omega arith

read_counted : TallyRight counts_reads → ⊥
unfolding computing noted
read_counted h =
    let right = h (small I2c 64) (with_last fresh (0 ∷ 0 ∷ 0xD7 ∷ [])) (zeros 64) cleared (Read 8 128 ∷ []) cleared_most in
    let answered : ◌≡◌ {A = ℕ} 1 0 = ap (λ (t : Tally). t.answered) right.counts in
    omega arith

running_counted : TallyRight counts_running → ⊥
unfolding computing noted
running_counted h =
    let right =
    h (small Rs485 64) (with_running fresh true) (zeros 64) cleared (Frame 0 (request Rs485 20 0x00 []) 128 ∷ []) cleared_most in
    let foreign : ◌≡◌ {A = ℕ} 1 0 = ap (λ (t : Tally). t.foreign) right.counts in
    omega arith

reset_cleared : TallyRight reset_clears → ⊥
unfolding computing noted
reset_cleared h =
    let right = h (small Rs485 64) fresh (zeros 64) full (Frame 0 (reset_frame Rs485) 128 ∷ []) full_most in
    let short : ◌≡◌ {A = ℕ} 0 65535 = ap (λ (t : Tally). t.short) right.counts in
    omega arith

pub returns : goal.returns
returns c = (wrapped, read_counted, running_counted, reset_cleared)
