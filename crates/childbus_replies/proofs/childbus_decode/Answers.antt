-- `childbus_decode` meets its contract, by what `decoder::decode::decode` promises.
use Rattle.std.proofs.Common.{lt-ltb}
use Rattle.childbus_replies.proofs.ReplyLaws.{decoded-refusal, decoded-reply}
use Rattle.childbus_replies.specs.ReplyBytes.{decoded_left}
use Rattle.childbus_replies.proofs.childbus_decode.Goals as goal

pub returns-in_default : goal.returns-in_default
unfolding decoded_left
returns-in_default c = rw (c.decoded_number.ensures, lt-ltb 1 _ c.in_default.ensures.1)

pub returns-in_default-answer : goal.returns-in_default-answer
returns-in_default-answer c =
    decoded-refusal c.args.bus c.args.code c.args.address c.args.asked c.args.reply.now
    c.in-Ok.bus
    c.in-Ok.ensures
    c.decode-answer.ensures
    c.in_default-answer.not-Reply
    c.decoded_number-in_default-answer.ensures

pub returns : goal.returns
returns c =
    rw c.from.ensures
    (decoded-reply c.args.bus c.args.code c.args.address c.args.asked c.args.reply.now
    c.in-Ok.bus
    c.in-Ok.ensures
    c.decode-answer.ensures
    c.in-Reply.is)
