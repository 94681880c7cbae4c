-- `wrongboards::counts_unchanged` meets its contract: an upload of the byte 7, made again, counts 1.
use Rattle.std.proofs.Common.{◌≡◌, refl, ap, List, [], ◌∷◌, ℕ, arith, get_or}
use Rattle.rules.specs.declared.kinds.Bus.TheVariants.{I2c}
use Rattle.ledger.specs.Ledger.{opened}
use Rattle.ledger.specs.Calls.{Call, Read, Step, traced}
use Rattle.ledger.specs.Claim.{Demand3}
use Rattle.wrongboards.specs.WrongBoards.{counts_unchanged}
use Rattle.wrongboards.proofs.Computing.{computing}
use Rattle.wrongboards.proofs.Cases.{small, zeros, write, finalize}
use Rattle.wrongboards.proofs.counts_unchanged.Goals as goal

-- the byte 7 uploaded twice
calls : List Call
calls = write I2c 0 (7 ∷ []) ∷ finalize I2c ∷ write I2c 0 (7 ∷ []) ∷ finalize I2c ∷ []

steps : List Step
steps = traced counts_unchanged (small I2c 64) (zeros 64) calls

-- a step by its place; past the end, a step in which nothing happens
step : ℕ → Step
step i = get_or steps i (record { call = Read 0 0; number = 1; reply = []; count = 0; flash = []; ledger = opened [] })

refused : Demand3 counts_unchanged → ⊥
unfolding computing calls steps step
refused h =
    let holds = h (small I2c 64) (zeros 64) calls in
    let again : ◌≡◌ {A = ℕ} 1 0 =
    ap (λ (l : List ℕ). get_or l 1 0)
    (holds.again (step 0 ∷ []) (step 2 ∷ []) [] (step 1) (step 3) refl refl refl (record { from_zero_holds = refl; same_bytes = refl })) in
    omega arith

pub returns : goal.returns
returns c = refused
