-- `upload_commands::finalize` meets its contract, by those of `finalize::finalize` and `response::reply_number`.
use Rattle.std.proofs.Common.{arith}
use Rattle.upload_commands.proofs.Laws.{ready, upload_formed_lem, count_most}
use Rattle.response.proofs.Laws.{few_fit}
use Rattle.rules.specs.Commands.{finished}
use Rattle.state.specs.Heads.{upload_with}
use Rattle.upload_commands.proofs.finalize.Goals as goal

pub finalize-finalized-requires : goal.finalize-finalized-requires
finalize-finalized-requires c =
    record {
      ready =
          ready c.args.p c.args.h _ _ c.args.at c.requires.serving (upload_with c.args.h.counts c.args.waiting.now)
          (upload_formed_lem c.args.p c.args.h _ _ c.args.at c.requires.serving c.args.waiting.now);
      waiting_len = c.requires.waiting_len;
    }

pub reply_number-requires : goal.reply_number-requires
reply_number-requires c = (
  count_most c.args.p c.args.h _ _ c.args.at c.requires.serving (upload_with c.finalize-finalized.result c.args.waiting.now) _
      c.finalize-finalized.ensures.formed,
  few_fit c.args.p c.args.h _ _ c.args.at 2 c.requires.serving (omega arith),
)

pub returns : goal.returns
unfolding finished
returns c =
    λ l.
    rw (← c.finalize-finalized.ensures.flash_after)
    (rw (c.with_counts.ensures c.args.waiting.now c.args.waiting.now l) at (c.reply_number.ensures c.args.waiting.now l c.finalize-finalized.new.flash))
