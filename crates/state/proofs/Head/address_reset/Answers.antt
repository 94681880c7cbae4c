-- `state::Head::address_reset` meets its contract: the two calls change the last reply and the address, and nothing else.
use Rattle.std.proofs.Common.{ap, ◌∙◌}
use Rattle.rules.specs.declared.kinds.Bus.TheVariants.{I2c}
use Rattle.rules.specs.declared.kinds.Address.TheVariants.{DefaultRange}
use Rattle.rules.specs.State.{State}
use Rattle.rules.specs.State.{with_address}
use Rattle.state.proofs.Head.address_reset.Goals as goal

pub returns : goal.returns
returns c =
    λ w l.
    c.with_address.ensures w l ∙ ap (λ (s : State). with_address s DefaultRange) (c.without_reply.ensures I2c w l)
