-- `state_writer::write_back` meets its contract, by those of `keep_reply` and `head_to`.
use Rattle.std.proofs.Common.{◌≡◌, length, rules}
use Rattle.state.specs.View.{largest_frame}
use Rattle.state_writer.proofs.Laws.{written_back}
use Rattle.state_writer.proofs.write_back.Goals as goal

pub returns : goal.returns
returns c =
    λ w l.
    let long : length c.keep_reply.new.last ≡ largest_frame = search rules in
    written_back c.args.h c.args.b.now _ c.keep_reply.new.last w l _ long c.keep_reply.ensures (c.head_to.ensures w l)
