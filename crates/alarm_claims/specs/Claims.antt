-- The alarms and the rules' board: when nothing is lost, and what silence means.
use Rattle.std.specs.Prelude.{◌≡◌, true, List, ℕ, ◌≤◌, length}
use Rattle.rules.specs.declared.kinds.Verdict.{Verdict}
use Rattle.rules.specs.Profile.{Profile}
use Rattle.rules.specs.State.{State, Upload}
use Rattle.rules.specs.Numbers.{refusal}
use Rattle.rules.specs.Frames.{ignored}
use Rattle.rules.specs.Commands.{finished}
use Rattle.rules.specs.Board.{refused, handled}
use Rattle.lost_bytes.specs.Lost.{lost_bytes}

-- the same upload before and after, over any flash
abbrev pub KeptLosesNothing : Type 0
KeptLosesNothing = (O : ℕ) (u : Upload) (d : List ℕ) → lost_bytes O u u d ≡ 0

-- a finalize of any state, where none of 2 to 5 applies
abbrev pub FinalizeLosesNothing : Type 0
FinalizeLosesNothing =
    (p : Profile) (s : State) (d : List ℕ) (n : ℕ) → refusal p s (length d) n ≡ 0
    → lost_bytes p.offset s.upload (finished p s d).state.upload (finished p s d).flash ≡ 0

-- any frame whose verdict is ignored: 1, or the number that says why
abbrev pub IgnoredUntouched : Type 0
IgnoredUntouched =
    (p : Profile) (s : State) (a : ℕ) (f d : List ℕ) (v : Verdict) → ignored v ≡ true
    → (1 ≤ (handled p s a f d v).number) × (handled p s a f d v ≡ refused (handled p s a f d v).number s d)
