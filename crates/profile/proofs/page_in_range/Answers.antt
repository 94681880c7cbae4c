-- `profile::page_in_range` meets its contract: each test of the code is one of the rule.
use Rattle.std.proofs.Common.{eq-eqb, ne_eqb}
use Rattle.profile.proofs.page_in_range.Goals as goal

pub returns-then-page-eq-SMALLEST_PAGE : goal.returns-then-page-eq-SMALLEST_PAGE
returns-then-page-eq-SMALLEST_PAGE c = rw (eq-eqb _ _ c.if-page-eq-SMALLEST_PAGE.true)

pub returns : goal.returns
returns c = rw (ne_eqb _ _ c.if-page-eq-SMALLEST_PAGE.false)
