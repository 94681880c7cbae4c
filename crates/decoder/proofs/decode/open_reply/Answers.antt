-- `decoder::decode::open_reply` meets its contract: each return follows the definition past the tests that were passed.
use Rattle.std.proofs.Common.{sym, ◌+◌, arith, length-take-le, lt-ltb, le-ltb}
use Rattle.rules.specs.Master.{opened}
use Rattle.decoder.proofs.DecodeLaws.{decodes}
use Rattle.decoder.proofs.decode.open_reply.Goals as goal

pub slice_bounds-sum_right-end : goal.slice_bounds-sum_right-end
slice_bounds-sum_right-end c =
    sym (length-take-le (c.args.n + c.shortest_reply.result) c.args.reply.now
    (omega (arith, c.shortest_reply.ensures)))

pub returns-then-not-sum_right : goal.returns-then-not-sum_right
unfolding opened
returns-then-not-sum_right c =
    decodes _ _ c.args.reply.now
    (rw (
      ← c.shortest_reply.ensures,
      ← c.requires.0,
      ← c.sum_right.ensures,
      c.if-not-sum_right.true,
    ))
    (omega arith)

pub returns-then-from_other : goal.returns-then-from_other
unfolding opened
returns-then-from_other c =
    decodes _ _ c.args.reply.now
    (rw (
      ← c.shortest_reply.ensures,
      ← c.requires.0,
      ← c.sum_right.ensures,
      c.if-not-sum_right.false,
      ← c.from_other.ensures,
      c.if-from_other.true,
    ))
    (omega arith)

pub returns-then-status-gt5 : goal.returns-then-status-gt5
unfolding opened
returns-then-status-gt5 c =
    decodes _ _ c.args.reply.now
    (rw (
      ← c.shortest_reply.ensures,
      ← c.requires.0,
      ← c.sum_right.ensures,
      c.if-not-sum_right.false,
      ← c.from_other.ensures,
      c.if-from_other.false,
      ← c.status-status.ensures,
      lt-ltb _ _ c.if-status-gt5.true,
    ))
    (omega arith)

pub returns-then-results_missing : goal.returns-then-results_missing
unfolding opened
returns-then-results_missing c =
    decodes _ _ c.args.reply.now
    (rw (
      ← c.shortest_reply.ensures,
      ← c.requires.0,
      ← c.sum_right.ensures,
      c.if-not-sum_right.false,
      ← c.from_other.ensures,
      c.if-from_other.false,
      ← c.status-status.ensures,
      le-ltb _ _ c.if-status-gt5.false,
      ← c.results_missing.ensures,
      c.if-results_missing.true,
    ))
    (omega arith)

pub returns : goal.returns
unfolding opened
returns c =
    decodes _ _ c.args.reply.now
    (rw (
      ← c.shortest_reply.ensures,
      ← c.requires.0,
      ← c.sum_right.ensures,
      c.if-not-sum_right.false,
      ← c.from_other.ensures,
      c.if-from_other.false,
      ← c.status-status.ensures,
      le-ltb _ _ c.if-status-gt5.false,
      ← c.results_missing.ensures,
      c.if-results_missing.false,
      ← c.results_start.ensures,
    ))
    (omega (arith, c.results_start.ensures))
