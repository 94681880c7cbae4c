-- `acceptance::accepts` meets its contract, by its tests.
use Rattle.std.proofs.Common.{eq-eqb, ne_eqb}
use Rattle.acceptance.proofs.accepts.Goals as goal

pub returns-then-address-eq0 : goal.returns-then-address-eq0
returns-then-address-eq0 c = rw (eq-eqb _ _ c.if-address-eq0.true)

pub returns-then-address-next : goal.returns-then-address-next
returns-then-address-next c = rw (ne_eqb _ _ c.if-address-eq0.false, ne_eqb _ _ c.if-address-next.true)

pub returns : goal.returns
returns c = rw (ne_eqb _ _ c.if-address-eq0.false, eq-eqb _ _ c.if-address-next.false)
