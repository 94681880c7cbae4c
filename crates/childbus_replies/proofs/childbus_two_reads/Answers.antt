-- `childbus_two_reads` meets its contract, by where the results of each read lie.
use Rattle.std.proofs.Common.{refl}
use Rattle.childbus_replies.proofs.ReplyLaws.{reads_placed}
use Rattle.childbus_replies.proofs.childbus_two_reads.Goals as goal

pub returns-in-Some : goal.returns-in-Some
returns-in-Some c = reads_placed c.args.code c.args.asked c.args.first.now c.args.second.now c.in-Some.ensures refl

pub returns-in-Some-results_at : goal.returns-in-Some-results_at
returns-in-Some-results_at c =
    reads_placed c.args.code c.args.asked c.args.first.now c.args.second.now c.in_default.ensures c.in-Some-results_at.ensures

pub returns : goal.returns
returns c = reads_placed c.args.code c.args.asked c.args.first.now c.args.second.now c.in_default.ensures c.in_default-results_at.ensures
