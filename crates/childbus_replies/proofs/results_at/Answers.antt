-- `results_at` meets its contract: a read decodes exactly if its answer is a reply.
use Rattle.decoder.proofs.ReadsLaws.{decodes_refused, decodes_reply}
use Rattle.childbus_replies.specs.ReplyBytes.{results_at}
use Rattle.childbus_replies.proofs.results_at.Goals as goal

pub returns-in-Reply : goal.returns-in-Reply
unfolding results_at
returns-in-Reply c = rw (decodes_reply c.decode.ensures c.in-Reply.is)

pub returns-in_default : goal.returns-in_default
unfolding results_at
returns-in_default c = rw (decodes_refused c.decode.ensures c.in_default.not-Reply)
