-- The layout loses nothing that a board can hold, by its laws.
use Rattle.profile_bytes.proofs.Laws.{profile_fits, profile_read, profile_kept, profile_out}
use Rattle.profile_bytes.proofs.both_ways.Goals as goal

pub returns : goal.returns
returns c = record { profile_fits = profile_fits; profile_read = profile_read; profile_kept = profile_kept; profile_out = profile_out }
