-- `request_range::read_wrong` meets its contract: both sides are the same two tests.
use Rattle.std.proofs.Common.{arith, lt-ltb, le-ltb}
use Rattle.laws.proofs.SizeLaws.{shortest_reply-le}
use Rattle.request_range.proofs.read_wrong.Goals as goal

pub overflow_sub-result : goal.overflow_sub-result
overflow_sub-result c = omega (arith, c.shortest_reply.ensures, shortest_reply-le c.args.bus)

pub returns-then-address-gt65535 : goal.returns-then-address-gt65535
returns-then-address-gt65535 c = rw (lt-ltb _ _ c.if-address-gt65535.true)

pub returns-else-address-gt65535 : goal.returns-else-address-gt65535
returns-else-address-gt65535 c = rw (le-ltb _ _ c.if-address-gt65535.false, c.shortest_reply.ensures)
