-- `tally_bytes::count` meets its contract: too short and left, or read, counted and written.
use Rattle.std.proofs.Common.{sym}
use Rattle.tally_bytes.proofs.Laws.{left_short, left-counted}
use Rattle.tally_bytes.proofs.count.Goals as goal

pub returns-then-b-lt-TALLY_BYTES : goal.returns-then-b-lt-TALLY_BYTES
returns-then-b-lt-TALLY_BYTES c = sym (left_short _ _ c.if-b-lt-TALLY_BYTES.true)

pub returns : goal.returns
returns c =
    rw (c.tally_to.ensures, c.counted_by.ensures, c.tally_from-t.ensures)
    (sym (left-counted c.args.b.now c.args.number c.if-b-lt-TALLY_BYTES.false))
