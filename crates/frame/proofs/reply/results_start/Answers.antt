-- `frame::reply::results_start` meets its contract: a header is short, so that the sum fits.
use Rattle.std.proofs.Common.{arith}
use Rattle.laws.proofs.SizeLaws.{header_length-le}
use Rattle.frame.proofs.reply.results_start.Goals as goal

pub overflow_add-result : goal.overflow_add-result
overflow_add-result c = omega (arith, c.header_length.ensures, header_length-le c.args.bus)
