-- The three demands, and W1, of calls of the code: of the states, flash bytes and buffers themselves, and of what is written down of them.
use Rattle.std.specs.Prelude.{◌≡◌, ◌⊎◌, true, List, [], ◌∷◌, ℕ, ◌+◌, ◌≤◌, length}
use Rattle.rules.specs.Profile.{in_range}
use Rattle.rules.specs.Numbers.{number}
use Rattle.ledger.specs.Calls.{ruled, traced}
use Rattle.ledger.specs.Claim.{Holds}
use Rattle.demands.specs.Past.{initially}
use Rattle.demands.specs.Acceptance.{AllRight}
use Rattle.demands.specs.Untouched.{foreign, damaged}
use Rattle.address_claims.specs.Addresses.{unreserved}
use Rattle.state.specs.declared.State.{State}
use Rattle.state.specs.View.{upload_of, Fresh}
use Rattle.profile.specs.declared.Profile.{Profile}
use Rattle.profile.specs.View.{profile_of}
use Rattle.refinement.specs.Happened.{CallInput, Receive, Read, Happened, Ran, calls_of, steps_of}

-- refused by 2 or above: the given state, flash and buffer, every byte of them
abbrev pub Refused : State → List ℕ → Happened → Type 0
Refused s d h = 2 ≤ number h.answer.outcome → (h.answer.state ≡ s) × (h.flash ≡ d) × (h.after ≡ h.before)

-- a foreign frame, or one with a wrong check sum: flash and upload as they were
abbrev pub Ignored : Profile → State → List ℕ → Happened → CallInput → Type 0
Ignored p s d h (Receive a f) =
    (foreign (profile_of p) s.address a f ≡ true) ⊎ (damaged (profile_of p) a f ≡ true)
    → (h.flash ≡ d) × (upload_of h.answer.state.upload ≡ upload_of s.upload)
Ignored p s d h (Read a) = Unit

-- demand 1 of each call, on the state and the flash that the last one left
abbrev pub AllKept : Profile → State → List ℕ → List Happened → Type 0
AllKept p s d [] = Unit
AllKept p s d (h ∷ hs) = Refused s d h × Ignored p s d h h.input × AllKept p h.answer.state h.flash hs

-- W1: after each call the own address is none of the reserved
abbrev pub AllUnreserved : Profile → List Happened → Type 0
AllUnreserved p [] = Unit
AllUnreserved p (h ∷ hs) = (unreserved p.bus h.answer.state.address ≡ true) × AllUnreserved p hs

-- the demands of a list of calls from the state s and the flash d
pub record Met (p : Profile) (s : State) (d : List ℕ) (hs : List Happened) : Type 0 where
  -- what is written down of the code is what the claims speak of
  pub as_ruled : steps_of p d hs ≡ traced ruled (profile_of p) d (calls_of hs)
  pub demand1 : AllKept p s d hs
  -- where numbers 2 and 3 do not apply
  pub demand2 : in_range (profile_of p) ≡ true → p.offset + p.size ≤ length d
      → AllRight (profile_of p) (initially d s.upload.count) (steps_of p d hs)
  pub demand3 : Holds (profile_of p) d (steps_of p d hs)
  pub addresses : AllUnreserved p hs

-- every list of calls of the code from the fresh board with any flash, under any one profile
abbrev pub CodeMeetsDemands : Type 0
CodeMeetsDemands = (p : Profile) (s : State) (d : List ℕ) (hs : List Happened) → Fresh s → Ran p s d hs → Met p s d hs
