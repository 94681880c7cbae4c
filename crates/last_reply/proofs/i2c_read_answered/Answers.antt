-- `last_reply::i2c_read_answered` meets its contract, by its tests.
use Rattle.laws.proofs.StateLaws.{length-used}
use Rattle.last_reply.proofs.i2c_read_answered.Goals as goal

pub returns-then-h : goal.returns-then-h
returns-then-h c = λ w l. rw c.if-h.true

pub returns-then-not-addressed : goal.returns-then-not-addressed
returns-then-not-addressed c =
    λ w l.
    rw (c.if-h.false, ← c.addressed.ensures, c.if-not-addressed.true)

pub returns : goal.returns
returns c =
    λ w l.
    rw (
      c.if-h.false,
      ← c.addressed.ensures,
      c.if-not-addressed.false,
      length-used c.args.h.len l,
    )
