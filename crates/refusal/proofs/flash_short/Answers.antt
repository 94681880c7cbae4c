-- `refusal::flash_short` meets its contract: below O, a length is below O + S; from O on, by `ltb-sub`.
use Rattle.std.proofs.Common.{sym, ◌+◌, arith, lt-ltb}
use Rattle.refusal.proofs.Laws.{ltb-sub}
use Rattle.refusal.proofs.flash_short.Goals as goal

pub returns-then-len-offset : goal.returns-then-len-offset
returns-then-len-offset c = sym (lt-ltb c.args.len (c.args.p.offset + c.args.p.size) (omega arith))

pub returns : goal.returns
returns c = ltb-sub c.args.len c.args.p.offset c.args.p.size (omega arith)
