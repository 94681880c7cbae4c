-- `reply_tests::length_right` meets its contract: on either bus both sides are the same test.
use Rattle.std.proofs.Common.{arith}
use Rattle.laws.proofs.SizeLaws.{shortest_reply-le}
use Rattle.reply_tests.proofs.length_right.Goals as goal

pub overflow_add-whole : goal.overflow_add-whole
overflow_add-whole c = omega (arith, c.shortest_reply.ensures, shortest_reply-le c.args.bus)

pub returns-in-I2c : goal.returns-in-I2c
returns-in-I2c c = rw (c.shortest_reply.ensures, c.in-I2c.is)

pub returns-in-Rs485 : goal.returns-in-Rs485
returns-in-Rs485 c = rw (c.shortest_reply.ensures, c.in-Rs485.is)
