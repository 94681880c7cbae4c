-- `upload_ends::page_changed` meets its contract: the two pages are compared.
use Rattle.std.proofs.Common.{ap, not}
use Rattle.upload_ends.specs.Ends.{page_changed}
use Rattle.upload_ends.proofs.page_changed.Goals as goal

pub returns : goal.returns
unfolding page_changed
returns c =
    let old = rw c.from.ensures at c.page_of.ensures in
    let new = rw c.from-2.ensures at c.page_of-2.ensures in
    ap not (rw (old, new) at c.matches.ensures)
