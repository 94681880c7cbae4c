-- `reply_tests::results_missing` meets its contract: only OK is held to the fixed part.
use Rattle.std.proofs.Common.{eq-eqb, ne_eqb}
use Rattle.reply_tests.proofs.results_missing.Goals as goal

pub returns-then-status-ne0 : goal.returns-then-status-ne0
returns-then-status-ne0 c = rw (ne_eqb _ _ c.if-status-ne0.true)

pub returns : goal.returns
returns c = rw (eq-eqb _ _ c.if-status-ne0.false, c.fixed_part.ensures)
