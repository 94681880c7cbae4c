-- `answer::respond` meets its contract: the reply is closed around the results, and the head keeps its length on I²C. By
-- `with_reply-ruled` and `no_reply-ruled`.
use Rattle.std.proofs.Common.{arith, length, take, length-take-le}
use Rattle.rules.specs.Board.{with_reply}
use Rattle.answer.proofs.AnsweredLaws.{kept_reply_none}
use Rattle.answer.proofs.RespondLaws.{with_reply-ruled, no_reply-ruled}
use Rattle.answer.proofs.respond.Goals as goal

pub close-n-requires : goal.close-n-requires
close-n-requires c =
    let fits = rw c.in-Some.is at c.requires in
    (omega (arith, fits.0), fits.1)

pub returns-in-Some : goal.returns-in-Some
returns-in-Some c =
    let closed = c.close-n.ensures in
    let fits = rw c.in-Some.is at c.requires in
    λ a w l d o long acted.
    with_reply-ruled c.args.bus c.args.to _ _ c.args.done _ w l d o c.args.out.now _ a c.in-Some.is long
    acted fits.1 closed
    (c.with_reply.ensures w l _ (length-take-le _ _ (omega (arith, closed.length_is, fits.1))))

pub returns-in-None : goal.returns-in-None
returns-in-None c =
    λ a w l d o long acted.
    rw c.no_reply.ensures
    (no_reply-ruled c.args.bus c.args.to c.args.done _ w l d o c.args.out.now a c.in-None.is acted
    (rw (kept_reply_none c.args.bus l) (c.without_reply.ensures c.args.bus w l)))
