-- `read_query::longest_results` meets its contract: the shortest reply is no longer than M.
use Rattle.std.proofs.Common.{arith}
use Rattle.laws.proofs.SizeLaws.{shortest_reply-le}
use Rattle.read_query.proofs.longest_results.Goals as goal

pub overflow_sub-result : goal.overflow_sub-result
overflow_sub-result c = omega (arith, c.shortest_reply.ensures, shortest_reply-le c.args.bus)

pub returns : goal.returns
returns c = omega (arith, c.shortest_reply.ensures, shortest_reply-le c.args.bus)
