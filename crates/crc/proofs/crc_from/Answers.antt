-- `crc::crc_from` meets its contract: at each turn the register is `Reached`.
use Rattle.std.proofs.Common.{arith}
use Rattle.crc.proofs.Register.{reached_next, reached_all}
use Rattle.crc.proofs.crc_from.Goals as goal

pub loop-b-preserved : goal.loop-b-preserved
loop-b-preserved g c =
    let small = c.type_inv.s c.loop-b.b-index in
    reached_next _ _ c.requires.by_table _ c.loop-b.b-index _ c.loop-b.invariant (omega arith) (omega (arith, small, c.requires.holds_a_byte))
    c.after_byte-v.ensures.step c.after_byte-v.ensures.in_width

pub returns : goal.returns
returns g c = reached_all _ _ _ c.loop-b.b-index c.loop-b.invariant (omega arith)
