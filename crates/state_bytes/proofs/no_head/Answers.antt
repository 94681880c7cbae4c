-- `state_bytes::no_head` meets its contract: the fresh head with one byte waiting.
use Rattle.std.proofs.Common.{ap, ◌∙◌}
use Rattle.state.specs.declared.State.{State}
use Rattle.state.specs.View.{with_held}
use Rattle.state.specs.Heads.{head_of}
use Rattle.state_bytes.proofs.no_head.Goals as goal

pub returns : goal.returns
returns c = ap (λ (s : State). head_of (with_held s 1)) (c.head-h.ensures ∙ c.fresh.ensures.all)
