-- `byte_slices::matches` meets its contract. Invariant: the whole is the same exactly where no byte so far differed and the rest is the
-- same. By `same_lengths`, `same_step` and `same_end`.
use Rattle.std.proofs.Common.{sym, ◌∙◌, arith}
use Rattle.laws.proofs.BytesLaws.{same_lengths, same_step, same_end}
use Rattle.byte_slices.proofs.matches.Goals as goal

pub returns-then-a-b : goal.returns-then-a-b
returns-then-a-b c = sym (same_lengths c.args.a.now c.args.b.now c.if-a-b.true)

pub loop-i-preserved : goal.loop-i-preserved
loop-i-preserved c = c.loop-i.invariant ∙ same_step c.loop-i.equal _ _ c.loop-i.i (omega arith) (omega arith)

pub returns : goal.returns
returns c = sym (c.loop-i.invariant ∙ same_end c.loop-i.equal _ _ c.loop-i.i (omega arith) (omega arith))
