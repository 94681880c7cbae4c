-- `profile::size_in_range` meets its contract: each test of the code is one of the rule.
use Rattle.std.proofs.Common.{le-leb, eq-eqb, ne_eqb}
use borrow.Author.Tests.{lt-leb}
use Rattle.profile.proofs.size_in_range.Goals as goal

pub returns-then-size-page-ne0 : goal.returns-then-size-page-ne0
returns-then-size-page-ne0 c = rw (ne_eqb _ _ c.if-size-page-ne0.true)

pub returns-then-size-page : goal.returns-then-size-page
returns-then-size-page c = rw (eq-eqb _ _ c.if-size-page-ne0.false, lt-leb _ _ c.if-size-page.true)

pub returns : goal.returns
returns c = rw (eq-eqb _ _ c.if-size-page-ne0.false, le-leb _ _ c.if-size-page.false)
