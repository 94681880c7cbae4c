-- `frame::request::destination` meets its contract, by the bus.
use Rattle.std.proofs.Common.{sym, arith, ◌≤◌, length, get_or}
use lib.ListN.{get_or-eq_default}
use Rattle.frame.proofs.request.destination.Goals as goal

pub returns-then-frame-eq0 : goal.returns-then-frame-eq0
returns-then-frame-eq0 c =
    let none : length c.args.frame.now ≤ 0 = omega arith in
    rw c.in-Rs485.is (sym (get_or-eq_default c.args.frame.now 0 none))

pub returns-else-frame-eq0 : goal.returns-else-frame-eq0
returns-else-frame-eq0 c = rw c.in-Rs485.is
