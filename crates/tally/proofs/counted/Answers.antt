-- `tally::counted` meets its contract: counted by the answer's number.
use Rattle.tally.proofs.counted.Goals as goal

pub returns : goal.returns
returns c = rw (c.counted_by.ensures, c.board_number.ensures)
