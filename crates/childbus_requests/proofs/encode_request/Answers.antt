-- `childbus_requests::encode_request` meets its contract, by what `encoder::encode::encode` promises.
use Rattle.std.proofs.Common.{lt-ltb}
use Rattle.childbus_requests.proofs.RequestLaws.{encoded-left}
use Rattle.childbus_requests.specs.RequestBytes.{encoded_left}
use Rattle.childbus_requests.proofs.encode_request.Goals as goal

pub returns-in_default : goal.returns-in_default
unfolding encoded_left
returns-in_default c = rw (c.encoded_number.ensures, lt-ltb 1 _ c.in_default.ensures.1)

pub returns : goal.returns
returns c =
    encoded-left c.args.bus c.args.longest c.args.out.now
    c.in-Ok.bus
    c.in-Ok.ensures
    c.encoded_number-2.ensures
    c.encoded_length.ensures
    c.args.request
    c.args.destination
    c.args.«data».now
    c.encode-answer.ensures
