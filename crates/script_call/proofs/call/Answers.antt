-- `script_call::call` meets its contract: the contract of `board::receive` for kind 0, else that of `readout::read`.
use Rattle.std.proofs.Common.{eq-eqb, ne_eqb}
use Rattle.answer.proofs.AnsweredLaws.{read_answered_lem}
use Rattle.script_call.proofs.call.Goals as goal

pub returns-then-kind-eq0 : goal.returns-then-kind-eq0
returns-then-kind-eq0 c = rw (eq-eqb c.args.kind 0 c.if-kind-eq0.true) c.receive.ensures.answered

pub returns-else-kind-eq0 : goal.returns-else-kind-eq0
returns-else-kind-eq0 c = rw (ne_eqb c.args.kind 0 c.if-kind-eq0.false) (read_answered_lem c.read.ensures)
