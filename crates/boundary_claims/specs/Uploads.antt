-- Finished uploads at the C boundary: over a list of childbus_receive and childbus_read, from any state bytes.
use Rattle.std.specs.Prelude.{List, ℕ}
use Rattle.profile.specs.View.{profile_of}
use Rattle.profile_bytes.specs.ProfileBytes.{profile_at}
use Rattle.finished_uploads.specs.Uploads.{EachStored}
use Rattle.boundary_claims.specs.Calls.{Call, steps_of}

abbrev pub BoundaryFinishesUploads : Type 0
BoundaryFinishesUploads =
    (profile state flash : List ℕ) (cs : List Call) → EachStored (profile_of (profile_at profile)) flash (steps_of profile state flash cs)
