-- The steps of a list of calls from a state on: what each did, the state after some of them, and their parts.
use mathlib.Core.Path.{◌≡◌, refl}
use mathlib.Core.List.{List, [], ◌∷◌, ◌++◌}
use Prim.Native.Nat.{ℕ}
use Rattle.rules.specs.Profile.{Profile}
use Rattle.rules.specs.State.{State}
use Rattle.ledger.specs.Ledger.{Ledger}
use Rattle.ledger.specs.Calls.{Call, Step, calls, ruled, fed, trace}
use Rattle.ledger.proofs.Kept.{Keeps}
use Rattle.ledger.proofs.EveryList.{call_keeps}
use Rattle.finished_uploads.specs.Uploads.{fed_all, flash_after}

-- the step is what the board of the rules does with its call
pub record Reacts (p : Profile) (s : State) (d : List ℕ) (t : Step) : Type 0 where
  pub number_is : t.number ≡ (calls p s d t.call).number
  pub reply_is : t.reply ≡ (calls p s d t.call).reply
  pub flash_is : t.flash ≡ (calls p s d t.call).flash

module _ (p : Profile) where
  -- one after the other
  abbrev pub Did : State → List ℕ → List Step → Type 0
  Did s d [] = Unit
  Did s d (t ∷ ts) = Reacts p s d t × Did (calls p s d t.call).state t.flash ts

  abbrev pub state_after : State → List ℕ → List Step → State
  state_after s d [] = s
  state_after s d (t ∷ ts) = state_after (calls p s d t.call).state t.flash ts

  pub trace_did : (cs : List Call) (s : State) (d : List ℕ) (k : Ledger) → Did s d (trace ruled p s d k cs)
  unfolding trace
  trace_did [] s d k = tt
  trace_did (c ∷ cs) s d k = (record { number_is = refl; reply_is = refl; flash_is = refl }, trace_did cs _ _ _)

  -- the steps behind some, and those in front
  pub did_behind : (before ts : List Step) (s : State) (d : List ℕ) → Did s d (before ++ ts)
      → Did (state_after s d before) (flash_after d before) ts
  did_behind [] ts s d did = did
  did_behind (t ∷ before) ts s d did = did_behind before ts _ _ did.1

  -- while they are fed to a ledger, state and flash stay the ledger's
  pub did_keeps : (ss ts : List Step) (s : State) (d : List ℕ) (k : Ledger) → Did s d (ss ++ ts) → Keeps p s d k
      → Keeps p (state_after s d ss) (flash_after d ss) (fed_all p k ss)
  unfolding fed_all
  did_keeps [] ts s d k did i = i
  did_keeps (t ∷ ss) ts s d k did i =
      let one : Keeps p (calls p s d t.call).state t.flash (fed p k t.call t.number t.reply) =
      rw (did.0.number_is, did.0.reply_is, did.0.flash_is) (call_keeps p s d k t.call i) in
      did_keeps ss ts _ _ _ did.1 one
