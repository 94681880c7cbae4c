-- `answer::fault` meets its contract: a response with no results lays nothing over the buffer.
use Rattle.std.proofs.Common.{refl, [], ◌+◌, arith}
use Rattle.rules.specs.Frames.{header_length}
use Rattle.rules.specs.Responses.{replying}
use Rattle.laws.proofs.SizeLaws.{shortest_reply-le}
use Rattle.laws.proofs.BytesLaws.{overlay_none}
use Rattle.state.specs.View.{view}
use Rattle.state.specs.Heads.{state_with}
use Rattle.answer.proofs.fault.Goals as goal

pub respond-requires : goal.respond-requires
respond-requires c = (omega (arith, shortest_reply-le c.args.bus), omega (arith, shortest_reply-le c.args.bus, c.requires))

pub returns : goal.returns
returns c =
    λ w l d.
    c.respond.ensures (replying (view (state_with c.args.h w l)) d c.args.status []) w l d c.args.out.now refl
    (rw (overlay_none c.args.out.now (header_length c.args.bus + 2)))
