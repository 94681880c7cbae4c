-- `state_writer::head_to` meets its contract: its stores lie one behind the other, by `stored_head`.
use Rattle.std.proofs.Common.{◌∙◌}
use Rattle.state_writer.proofs.Laws.{stored_head, running-from}
use Rattle.state_writer.proofs.head_to.Goals as goal

pub returns : goal.returns
returns c =
    stored_head c.args.h c.args.b.now
    c.kind_byte.ensures
    c.own_byte.ensures
    (c.from.ensures ∙ running-from c.args.h.running)
    c.store.ensures
    c.store_four.ensures
    c.store_four-2.ensures
    c.store_four-3.ensures
    c.store_four-4.ensures
