-- `acceptance::restart` meets its contract, by its test.
use Rattle.std.proofs.Common.{eq-eqb, ne_eqb}
use Rattle.acceptance.proofs.restart.Goals as goal

pub returns-then-address-eq0 : goal.returns-then-address-eq0
returns-then-address-eq0 c = λ w. rw (eq-eqb _ _ c.if-address-eq0.true) (c.restarted.ensures w)

pub returns : goal.returns
returns c = λ w. rw (ne_eqb _ _ c.if-address-eq0.false)
