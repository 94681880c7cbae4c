-- `tally::counted_by` meets its contract: each counter by what `more` says.
use Rattle.tally.proofs.counted_by.Goals as goal

pub returns : goal.returns
returns c =
    rw (
      c.more.ensures,
      c.more-2.ensures,
      c.more-3.ensures,
      c.more-4.ensures,
      c.more-5.ensures,
    )
