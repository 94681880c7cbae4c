-- An upload of the code and the lent flash: what they say together, what a call asks of them, and what it promises.
use Rattle.std.specs.Prelude.{◌≡◌, true, cond, List, ℕ, ◌+◌, ◌≤◌, length, take, drop}
use Rattle.rules.specs.Bytes.{same, overlay}
use Rattle.rules.specs.Profile.{in_range}
use Rattle.rules.specs.State.{upload_formed}
use Rattle.rules.specs.Commit.{Progress}
use Rattle.state.specs.declared.Upload.{Upload}
use Rattle.state.specs.View.{upload_of}
use Rattle.profile.specs.declared.Profile.{Profile}
use Rattle.profile.specs.View.{profile_of}

-- what an upload and the flash say
abbrev pub progress_of : Upload → List ℕ → Progress
progress_of u d = record { upload = upload_of u; flash = d }

-- what a call on them asks: the board's numbers 2, 3 and 4 do not apply
pub record Ready (p : Profile) (u : Upload) (flashLength : ℕ) : Type 0 where
  pub in_range_holds : in_range (profile_of p) ≡ true
  pub flash_holds : p.offset + p.size ≤ flashLength
  pub formed : upload_formed (profile_of p).page p.size (upload_of u) ≡ true

-- what it promises of the upload besides what the rules say: it is formed again, and where its next address is
pub record Formed (p : Profile) (u : Upload) (next : ℕ) : Type 0 where
  pub formed : upload_formed (profile_of p).page p.size (upload_of u) ≡ true
  pub next_is : u.next ≡ next

-- bytes committed at a place of flash d, which becomes d', with the erase count before and after
pub record CommitCounted (d : List ℕ) (at : ℕ) (bytes : List ℕ) (count count' : ℕ) (d' : List ℕ) : Type 0 where
  pub counted : count' ≡ cond (same (take (length bytes) (drop at d)) bytes) count (count + 1)
  pub laid : d' ≡ overlay d at bytes
