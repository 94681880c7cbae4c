-- What both ways through the tally's bytes keep: all that a tally can hold.
use Rattle.std.specs.Prelude.{◌≡◌, List, ℕ, ◌≤◌, ◌<◌, ◌^◌, length}
use Rattle.rules.specs.Numbers.{laid}
use Rattle.tally.specs.declared.Tally.{Tally}
use Rattle.tally.specs.Tally.{tallied}
use Rattle.fields.specs.Fields.{Bytes}
use Rattle.tally_bytes.specs.TallyBytes.{tally_size, tally_at, tally_bytes, tally_left}

-- each counter has 16 bits
pub record TallyFits (t : Tally) : Type 0 where
  pub short : t.short < 2 ^ 16
  pub long : t.long < 2 ^ 16
  pub sum : t.sum < 2 ^ 16
  pub foreign : t.foreign < 2 ^ 16
  pub answered : t.answered < 2 ^ 16

pub record BothWays : Type 0 where
  -- a tally that was written is read back
  pub tally_read : (t : Tally) (b : List ℕ) → tally_at (laid (tally_bytes t) b) ≡ t
  -- one that was read is written back: any ten bytes are a tally
  pub tally_kept : (b : List ℕ) → Bytes b → tally_size ≤ length b → laid (tally_bytes (tally_at b)) b ≡ b
  -- a tally that was read fits, and so does the counted one
  pub tally_fits : (b : List ℕ) (number : ℕ) → Bytes b → TallyFits (tally_at b) × TallyFits (tallied (tally_at b) number)
  -- after a counted frame the bytes say the counted tally; a buffer that is too short stays
  pub counted : (b : List ℕ) (number : ℕ) → tally_size ≤ length b → tally_at (tally_left b number) ≡ tallied (tally_at b) number
  pub too_short : (b : List ℕ) (number : ℕ) → length b < tally_size → tally_left b number ≡ b
