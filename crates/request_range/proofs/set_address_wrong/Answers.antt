-- `request_range::set_address_wrong` meets its contract: both sides are the same three tests.
use Rattle.request_range.proofs.set_address_wrong.Goals as goal

pub returns-then-address_over : goal.returns-then-address_over
returns-then-address_over c = rw (← c.address_over.ensures, c.if-address_over.true)

pub returns-then-reserved : goal.returns-then-reserved
returns-then-reserved c = rw (← c.address_over.ensures, c.if-address_over.false, ← c.reserved.ensures, c.if-reserved.true)

pub returns-else-reserved : goal.returns-else-reserved
returns-else-reserved c = rw (← c.address_over.ensures, c.if-address_over.false, ← c.reserved.ensures, c.if-reserved.false)
