-- `text::read::hex_right` meets its contract: an even number of bytes, each a digit, is pairs of digits.
use Rattle.std.proofs.Common.{◌%◌, length, sym, ◌∙◌, ne_eqb}
use Rattle.text.proofs.ReadLaws.{hex_right-even, hex_right-odd}
use Rattle.text.proofs.read.hex_right.Goals as goal

pub returns-then-s-eq0 : goal.returns-then-s-eq0
returns-then-s-eq0 c = c.are_digits.ensures ∙ sym (hex_right-even c.args.s.now c.if-s-eq0.true)

pub returns-else-s-eq0 : goal.returns-else-s-eq0
returns-else-s-eq0 c = ne_eqb (length c.args.s.now % 2) 0 c.if-s-eq0.false ∙ sym (hex_right-odd c.args.s.now c.if-s-eq0.false)
