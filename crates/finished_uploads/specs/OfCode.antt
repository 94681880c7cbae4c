-- The same of the code: of what `board::receive` and `readout::read` return on a list of calls, from any state.
use Rattle.std.specs.Prelude.{List, ℕ}
use Rattle.state.specs.declared.State.{State}
use Rattle.profile.specs.declared.Profile.{Profile}
use Rattle.profile.specs.View.{profile_of}
use Rattle.refinement.specs.Happened.{Happened, Ran, steps_of}
use Rattle.finished_uploads.specs.Uploads.{EachStored}

abbrev pub CodeFinishesUploads : Type 0
CodeFinishesUploads =
    (p : Profile) (s : State) (d : List ℕ) (hs : List Happened) → Ran p s d hs → EachStored (profile_of p) d (steps_of p d hs)
