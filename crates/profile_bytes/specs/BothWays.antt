-- What both ways through the profile's bytes keep.
use Rattle.std.specs.Prelude.{◌≡◌, true, false, List, ◌++◌, ℕ, ◌<◌, ◌^◌, length, take, set}
use Rattle.rules.specs.Profile.{page_in_range, in_range}
use Rattle.profile.specs.declared.Profile.{Profile}
use Rattle.profile.specs.View.{profile_of}
use Rattle.fields.specs.Fields.{Bytes}
use Rattle.profile_bytes.specs.ProfileBytes.{profile_size, profile_held, profile_at, profile_bytes}

-- a profile of the code whose numbers fit their bytes, with a page that byte 6 can tell
pub record ProfileFits (p : Profile) : Type 0 where
  pub longest : p.longest < 2 ^ 32
  pub page : page_in_range p.page ≡ true
  pub size : p.size < 2 ^ 32
  pub offset : p.offset < 2 ^ 32
  pub serial : length p.serial ≡ 16

pub record BothWays : Type 0 where
  -- every profile in range fits; its array has 16 bytes
  pub profile_fits : (p : Profile) → length p.serial ≡ 16 → in_range (profile_of p) ≡ true → ProfileFits p
  -- a profile's bytes, and any after them, say that profile
  pub profile_read : (p : Profile) (rest : List ℕ) → ProfileFits p → profile_at (profile_bytes p ++ rest) ≡ p
  -- bytes that hold a profile are its bytes, but for 7
  pub profile_kept : (b : List ℕ) → Bytes b → profile_held b ≡ true → profile_bytes (profile_at b) ≡ set (take profile_size b) 7 0
  -- bytes that hold no profile are number 2
  pub profile_out : (b : List ℕ) → profile_held b ≡ false → in_range (profile_of (profile_at b)) ≡ false
