-- `tally_bytes::tally_to` meets its contract: ten bytes stored at the front.
use Rattle.std.proofs.Common.{◌∙◌}
use Rattle.laws.proofs.LaidLaws.{overlay-first}
use Rattle.tally_bytes.proofs.tally_to.Goals as goal

pub returns : goal.returns
returns c =
    rw (
      c.low_first-short.ensures,
      c.low_first-long.ensures,
      c.low_first-sum.ensures,
      c.low_first-foreign.ensures,
      c.low_first-answered.ensures,
    ) at c.store.ensures
    ∙ overlay-first _ _
