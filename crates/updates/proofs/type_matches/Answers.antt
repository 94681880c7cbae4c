-- `updates::type_matches` meets its contract, by its tests.
use Rattle.std.proofs.Common.{eq-eqb, ne_eqb}
use Rattle.updates.proofs.type_matches.Goals as goal

pub returns-then-asked-own : goal.returns-then-asked-own
returns-then-asked-own c = rw (eq-eqb _ _ c.if-asked-own.true)

pub returns-else-asked-own : goal.returns-else-asked-own
returns-else-asked-own c = rw (ne_eqb _ _ c.if-asked-own.false)
