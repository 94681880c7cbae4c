-- `finished_uploads::wrong_claims` meets its contract: a finalize after the byte 7 and one after the byte 8 count the same page twice; with
-- O at 64 the byte 7 does not come to place 0; written before a reset it comes nowhere; and an older waiting byte 7 is laid by a finalize
-- before the first write.
use Rattle.std.proofs.Common.{◌≡◌, refl, ap, List, [], ◌∷◌, ℕ, arith, get_or}
use Rattle.rules.specs.declared.kinds.Bus.TheVariants.{I2c}
use Rattle.rules.specs.State.{State, fresh}
use Rattle.rules.specs.Profile.{Profile}
use Rattle.changed_pages.specs.ChangedPages.{changed_below}
use Rattle.ledger.specs.Ledger.{opened}
use Rattle.ledger.specs.Calls.{Call, Frame, Step, ruled, trace}
use Rattle.wrongboards.proofs.Computing.{computing}
use Rattle.wrongboards.proofs.Cases.{zeros, write, finalize}
use Rattle.finished_uploads.specs.Wrong.{CountsAlways, LaysAtZero, SurvivesReset, BeginsEarlier}
use Rattle.finished_uploads.proofs.WrongCases.{state_with, at_zero, at_page, around, step_at}
use Rattle.finished_uploads.proofs.wrong_claims.Goals as goal

-- the steps of the rules' board
abbrev steps : Profile → State → List ℕ → List Call → List Step
steps p s d cs = trace ruled p s d (opened d) cs

-- a finalize within a page
twice : List Call
twice = write I2c 0 (7 ∷ []) ∷ finalize I2c ∷ write I2c 1 (8 ∷ []) ∷ finalize I2c ∷ []

counts_twice : CountsAlways → ⊥
unfolding computing changed_below twice
counts_twice h =
    let at : ℕ → Step = step_at (steps at_zero fresh (zeros 64) twice) in
    let count : ◌≡◌ {A = ℕ} 2 1 =
    ap (λ (l : List ℕ). get_or l 1 0)
    (h at_zero fresh (zeros 64) twice [] (at 0 ∷ at 1 ∷ at 2 ∷ []) [] (at 3) refl (7 ∷ 8 ∷ [])
    (record { begun = refl; no_reset = (refl, (refl, (refl, tt))); in_order = refl; image_is = refl; ended = refl })) in
    omega arith

-- O is not 0
not-at-zero : LaysAtZero → ⊥
unfolding computing
not-at-zero h =
    let cs : List Call = write I2c 0 (7 ∷ []) ∷ finalize I2c ∷ [] in
    let at : ℕ → Step = step_at (steps at_page fresh (zeros 128) cs) in
    let byte : ◌≡◌ {A = ℕ} 0 7 =
    ap (λ (l : List ℕ). get_or l 0 0)
    (h at_page fresh (zeros 128) cs [] (at 0 ∷ []) [] (at 1) refl (7 ∷ [])
    (record { begun = refl; no_reset = (refl, tt); in_order = refl; image_is = refl; ended = refl })) in
    omega arith

-- a reset after the byte
lost_by_reset : SurvivesReset → ⊥
unfolding computing
lost_by_reset h =
    let cs : List Call = around (7 ∷ []) (Frame 0 (6 ∷ []) 128) in
    let at : ℕ → Step = step_at (steps at_zero fresh (zeros 64) cs) in
    let byte : ◌≡◌ {A = ℕ} 0 7 =
    ap (λ (l : List ℕ). get_or l 0 0) (h at_zero fresh (zeros 64) cs [] (at 0 ∷ at 1 ∷ []) [] (at 2) refl refl refl refl) in
    omega arith

-- an older upload's finalize before the first write, which is empty
laid-before : BeginsEarlier → ⊥
unfolding computing
laid-before h =
    let cs : List Call = finalize I2c ∷ write I2c 0 [] ∷ finalize I2c ∷ [] in
    let s : State = state_with 1 (7 ∷ []) 0 in
    let at : ℕ → Step = step_at (steps at_zero s (zeros 64) cs) in
    let byte : ◌≡◌ {A = ℕ} 7 0 =
    ap (λ (l : List ℕ). get_or l 0 0)
    (h at_zero s (zeros 64) cs [] (at 0 ∷ at 1 ∷ []) [] (at 2) refl (refl, (refl, tt)) refl refl) in
    omega arith

pub returns : goal.returns
returns c = (counts_twice, not-at-zero, lost_by_reset, laid-before)
