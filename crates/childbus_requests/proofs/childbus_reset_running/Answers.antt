-- `childbus_reset_running` meets its contract, by what `reset_running::reset_running` promises.
use Rattle.std.proofs.Common.{lt-ltb}
use Rattle.childbus_requests.specs.RequestBytes.{reset_left}
use Rattle.childbus_requests.proofs.RequestLaws.{reset_left_lem}
use Rattle.childbus_requests.proofs.childbus_reset_running.Goals as goal

pub returns-in_default : goal.returns-in_default
unfolding reset_left
returns-in_default c = rw (c.reset_number.ensures, lt-ltb 1 _ c.in_default.ensures.1)

pub returns : goal.returns
returns c =
    reset_left_lem c.args.bus c.args.longest c.args.out.now
    c.in-Ok.bus
    c.in-Ok.ensures
    c.reset_number-2.ensures
    c.reset_length.ensures
    c.args.major
    c.args.minor
    c.clip.ensures
    c.clip-2.ensures
    c.reset_running-answer.ensures
