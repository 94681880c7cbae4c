-- W8 of the code: a state that is handed to `board::receive` or `readout::read`, whatever page it was made under.
use Rattle.std.specs.Prelude.{◌≡◌, true, false, List, [], ℕ, ◌+◌, ◌≤◌, length}
use Rattle.rules.specs.Profile.{in_range}
use Rattle.rules.specs.State.{well_formed}
use Rattle.rules.specs.Numbers.{number, refusal}
use Rattle.rules.specs.Frames.{command_of, arguments_of}
use Rattle.demands.specs.Past.{past_of, well_framed}
use Rattle.state.specs.declared.State.{State}
use Rattle.state.specs.View.{upload_of, view}
use Rattle.profile.specs.declared.Profile.{Profile}
use Rattle.profile.specs.View.{profile_of}
use Rattle.refinement.specs.Happened.{Receive, Happened, Promised}
use Rattle.page_claims.specs.Pages.{Laid}

-- a call that was refused by number 4: the very state, flash and buffer
pub record Malformed (s : State) (d : List ℕ) (h : Happened) : Type 0 where
  pub number_is : number h.answer.outcome ≡ 4
  pub state_is : h.answer.state ≡ s
  pub flash_is : h.flash ≡ d
  pub buffer_is : h.after ≡ h.before

pub record CodeHandedIn : Type 0 where
  pub malformed :
      (p : Profile) (s : State) (d : List ℕ) (h : Happened) → Promised p s d h → in_range (profile_of p) ≡ true
      → p.offset + p.size ≤ length d → well_formed (profile_of p) (view s) ≡ false → Malformed s d h
  pub finalized :
      (p : Profile) (s : State) (d : List ℕ) (h : Happened) (a : ℕ) (f : List ℕ) → Promised p s d h → h.input ≡ Receive a f
      → refusal (profile_of p) (view s) (length d) (length h.before) ≡ 0 → well_framed (profile_of p) (past_of (view s)) a f ≡ true
      → command_of p.bus f ≡ 0x07 → arguments_of p.bus f ≡ []
      → (number h.answer.outcome ≡ 0)
      × Laid (profile_of p) (upload_of s.upload) d (upload_of h.answer.state.upload) h.flash
