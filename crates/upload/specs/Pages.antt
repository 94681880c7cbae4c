-- What is left when the pages that accepted bytes end are committed.
use Rattle.std.specs.Prelude.{◌≡◌, List, ℕ, ◌+◌, ◌%◌, ◌<◌, ◌≤◌, length, take}
use Rattle.rules.specs.Commit.{taken_all}
use Rattle.state.specs.declared.Counts.{Counts}
use Rattle.state.specs.Heads.{upload_with}
use Rattle.profile.specs.declared.Profile.{Profile}
use Rattle.profile.specs.View.{profile_of}
use Rattle.commit.specs.Progress.{progress_of}
use Rattle.upload.specs.declared.Paged.{Paged}

-- from the upload u with the buffer w, and the flash d, the first of the bytes lead to r and d'
pub record PagesTaken (p : Profile) (u : Counts) (w d bytes : List ℕ) (r : Paged) (d' : List ℕ) : Type 0 where
  pub used_most : r.used ≤ length bytes
  pub progress : progress_of (upload_with r.counts w) d' ≡ taken_all (profile_of p) (progress_of (upload_with u w) d) (take r.used bytes)
  -- the others end no page
  pub rest_short : r.counts.next % p.page + length bytes < p.page + r.used
