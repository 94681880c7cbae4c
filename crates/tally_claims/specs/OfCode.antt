-- W3 of the code: `tallied_board::receive` and `readout::read`, each given the state, the flash and the tally that the last one left.
use Rattle.std.specs.Prelude.{◌≡◌, List, [], ◌∷◌, ℕ, length}
use Rattle.rules.specs.Numbers.{number}
use Rattle.rules.specs.Frames.{verdict}
use Rattle.rules.specs.Board.{received}
use Rattle.state.specs.declared.State.{State}
use Rattle.state.specs.View.{view, Fresh}
use Rattle.profile.specs.declared.Profile.{Profile}
use Rattle.profile.specs.View.{profile_of}
use Rattle.refinement.specs.Happened.{CallInput, Receive, Read, Happened, Promised, call_of}
use Rattle.refinement.specs.Met.{Met}
use Rattle.tally.specs.declared.Tally.{Tally}
use Rattle.tallied_board.specs.Tallied.{FrameTallied}
use Rattle.tally_claims.specs.Counting.{AtMost, full, Noted, TallyHolds}

-- one call, and the tally that it left
pub record Counted : Type 0 where
  pub happened : Happened
  pub tally : Tally

-- a frame did what the contract of `tallied_board::receive` promises; a read what that of `readout::read` does, and it is lent no tally
abbrev pub TallyPromised : Profile → State → List ℕ → Tally → Tally → Happened → CallInput → Type 0
TallyPromised p s d t u h (Receive a f) =
    FrameTallied s h.answer h.flash h.after h.before u t (received (profile_of p) (view s) a f d (length h.before))
    (verdict p.bus p.longest s.running s.address a f)
TallyPromised p s d t u h (Read a) = Promised p s d h × (u ≡ t)

abbrev pub RanTallied : Profile → State → List ℕ → Tally → List Counted → Type 0
RanTallied p s d t [] = Unit
RanTallied p s d t (c ∷ cs) =
    TallyPromised p s d t c.tally c.happened c.happened.input
    × RanTallied p c.happened.answer.state c.happened.flash c.tally cs

abbrev pub happened_of : List Counted → List Happened
happened_of [] = []
happened_of (c ∷ cs) = c.happened ∷ happened_of cs

-- what is written down of them
abbrev pub notes_of : List Counted → List Noted
notes_of [] = []
notes_of (c ∷ cs) =
    record { call = call_of c.happened; number = number c.happened.answer.outcome; tally = c.tally } ∷ notes_of cs

pub record CodeTallied (p : Profile) (s : State) (d : List ℕ) (t : Tally) (cs : List Counted) : Type 0 where
  pub holds : TallyHolds (profile_of p) t (notes_of cs)
  -- the tally aside, the demands hold of the same calls
  pub demands : Fresh s → Met p s d (happened_of cs)

-- every list of calls of the code, from any state, flash and tally of 16-bit counters
abbrev pub CodeCounts : Type 0
CodeCounts =
    (p : Profile) (s : State) (d : List ℕ) (t : Tally) (cs : List Counted) → AtMost t full → RanTallied p s d t cs
    → CodeTallied p s d t cs
