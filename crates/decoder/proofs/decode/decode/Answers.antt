-- `decoder::decode::decode` meets its contract: each return follows the definition past the tests that were passed.
use Rattle.std.proofs.Common.{sym, ◌∙◌, arith, lt-ltb, le-ltb}
use Rattle.rules.specs.Master.{decoded}
use Rattle.decoder.proofs.DecodeLaws.{decodes, length_right-le}
use Rattle.decoder.proofs.decode.decode.Goals as goal

pub returns-then-not-served : goal.returns-then-not-served
unfolding decoded
returns-then-not-served c =
    decodes _ _ c.args.reply.now
    (rw (← c.served.ensures, c.if-not-served.true))
    (omega arith)

pub returns-then-reply-shortest_reply : goal.returns-then-reply-shortest_reply
unfolding decoded
returns-then-reply-shortest_reply c =
    decodes _ _ c.args.reply.now
    (rw (← c.shortest_reply.ensures, ← c.served.ensures, c.if-not-served.false, lt-ltb _ _ c.if-reply-shortest_reply.true))
    (omega arith)

pub returns-then-not-length_right : goal.returns-then-not-length_right
unfolding decoded
returns-then-not-length_right c =
    decodes _ _ c.args.reply.now
    (rw (
      ← c.shortest_reply.ensures,
      ← c.served.ensures,
      c.if-not-served.false,
      le-ltb _ _ c.if-reply-shortest_reply.false,
      ← c.count-n.ensures.0,
      ← c.length_right.ensures,
      c.if-not-length_right.true,
    ))
    (omega arith)

pub open_reply-requires : goal.open_reply-requires
open_reply-requires c = (c.count-n.ensures.0, length_right-le c.args.bus _ _ (sym c.length_right.ensures ∙ c.if-not-length_right.false))

pub returns : goal.returns
unfolding decoded
returns c =
    rw (
      ← c.served.ensures,
      c.if-not-served.false,
      le-ltb _ _ (rw c.shortest_reply.ensures at c.if-reply-shortest_reply.false),
      ← c.count-n.ensures.0,
      ← c.length_right.ensures,
      c.if-not-length_right.false,
    )
    c.open_reply.ensures
