-- The part that `childbus_two_reads` names is the result bytes of the rules, by `chosen_results`.
use Rattle.childbus_replies.proofs.ReplyLaws.{chosen_results}
use Rattle.childbus_replies.proofs.two_reads_agree.Goals as goal

pub returns : goal.returns
returns c = record { results = chosen_results }
