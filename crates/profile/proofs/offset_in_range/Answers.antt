-- `profile::offset_in_range` meets its contract: each test of the code is one of the rule.
use Rattle.std.proofs.Common.{eq-eqb, ne_eqb}
use Rattle.profile.proofs.offset_in_range.Goals as goal

pub returns-then-offset-page-ne0 : goal.returns-then-offset-page-ne0
returns-then-offset-page-ne0 c = rw (ne_eqb _ _ c.if-offset-page-ne0.true)

pub returns : goal.returns
returns c = rw (eq-eqb _ _ c.if-offset-page-ne0.false)
