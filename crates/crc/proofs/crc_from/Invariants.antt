use Rattle.crc.proofs.Register.{Reached}
use Rattle.crc.proofs.crc_from.Given as goal

abbrev pub invariant-loop-b : goal.invariant-loop-b
invariant-loop-b g l =
    let k = g.R.Register in
    Reached k.width k.algorithm k.halves l.s (k.entries l.table) (k.number l.v) l.b-index
