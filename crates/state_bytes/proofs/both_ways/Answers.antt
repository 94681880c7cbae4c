-- The layout loses nothing that a board can hold, by its laws.
use Rattle.state_bytes.proofs.Laws.{state_fits, state_read, rest_kept, state_kept, state_malformed}
use Rattle.state_bytes.proofs.both_ways.Goals as goal

pub returns : goal.returns
returns c = record {
  state_fits = state_fits;
  state_read = state_read;
  rest_kept = rest_kept;
  state_kept = state_kept;
  state_malformed = state_malformed;
}
