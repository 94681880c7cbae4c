-- `frame::request::arguments` meets its contract: cut before or behind first, the part is the same. By `drop-take`.
use Rattle.std.proofs.Common.{sym, ◌+◌, ◌-◌, length}
use Rattle.rules.specs.CheckSums.{sum_length}
use Rattle.rules.specs.Frames.{header_length}
use Rattle.laws.proofs.BytesLaws.{drop-take}
use Rattle.frame.proofs.request.arguments.Goals as goal

pub returns : goal.returns
returns c =
    rw (c.header_length-start.ensures, c.sum_length.ensures)
    (sym (drop-take (header_length c.args.bus + 1) (length c.args.frame.now - sum_length c.args.bus) c.args.frame.now))
