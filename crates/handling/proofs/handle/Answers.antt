-- `handling::handle` meets its contract: each arm is the rules' case for that verdict.
use Rattle.std.proofs.Common.{refl, sym, ◌∙◌, [], arith}
use Rattle.rules.specs.Board.{handled}
use Rattle.laws.proofs.StateLaws.{unrefused_profile}
use Rattle.state.proofs.Laws.{fresh-head}
use Rattle.answer.proofs.AnsweredLaws.{silent_effect, ignored_effect}
use Rattle.handling.proofs.HandleLaws.{command_long}
use Rattle.handling.proofs.handle.Goals as goal

pub fault-requires : goal.fault-requires
fault-requires c =
    let pre = c.requires.by_index [] [] in
    omega (arith, (unrefused_profile pre).longest_least, pre.buffer_holds)

pub fault-requires-in-BadSum : goal.fault-requires-in-BadSum
fault-requires-in-BadSum c =
    let pre = c.requires.by_index [] [] in
    omega (arith, (unrefused_profile pre).longest_least, pre.buffer_holds)

pub serve-requires : goal.serve-requires
serve-requires c =
    record {
      by_index = c.requires.by_index;
      waiting_len = c.requires.waiting_len;
      bus_in_bounds = command_long c.args.p.bus c.args.p.longest c.args.h.running c.args.h.address c.args.address
          c.args.frame.now (sym c.classify-v.ensures ∙ c.in-Command.is);
    }

pub returns-in-Reset : goal.returns-in-Reset
unfolding handled
returns-in-Reset c =
    let h = c.head.result in
    rw (← c.classify-v.ensures, c.in-Reset.is, c.no_reply.ensures)
    (record {
      answered = record {
        called = λ l.
            silent_effect c.args.p.bus h c.args.waiting.now l c.args.flash.now c.args.out.now
            ∙ rw (fresh-head h _ _ (c.head.ensures ∙ c.fresh.ensures.all) c.args.waiting.now l);
        behind = refl;
      };
      head_kept = λ e. cc;
      buffer_kept = λ e. refl;
    })

pub returns-in-ResetAddress : goal.returns-in-ResetAddress
unfolding handled
returns-in-ResetAddress c =
    let h = c.address_reset.result in
    rw (← c.classify-v.ensures, c.in-ResetAddress.is, c.no_reply-in-ResetAddress.ensures)
    (record {
      answered = record {
        called = λ l.
            silent_effect c.args.p.bus h c.args.waiting.now l c.args.flash.now c.args.out.now
            ∙ rw (c.address_reset.ensures c.args.waiting.now l);
        behind = refl;
      };
      head_kept = λ e. cc;
      buffer_kept = λ e. refl;
    })

pub returns-in-Ignored : goal.returns-in-Ignored
unfolding handled
returns-in-Ignored c =
    rw (← c.classify-v.ensures, c.in-Ignored.is, c.ignored_outcome.ensures)
    (record {
      answered = record {
        called = λ l.
            ignored_effect c.args.p.bus c.in-Ignored.reason c.args.h c.args.waiting.now l c.args.flash.now c.args.out.now;
        behind = refl;
      };
      head_kept = λ e. refl;
      buffer_kept = λ e. refl;
    })

pub returns-in-BadTransfer : goal.returns-in-BadTransfer
unfolding handled
returns-in-BadTransfer c =
    rw (← c.classify-v.ensures, c.in-BadTransfer.is, ← c.destination.ensures)
    (record {
      answered = record { called = λ l. rw c.code.ensures at (c.fault.ensures c.args.waiting.now l c.args.flash.now); behind = refl };
      head_kept = λ e. cc;
      buffer_kept = λ e. refl;
    })

pub returns-in-BadSum : goal.returns-in-BadSum
unfolding handled
returns-in-BadSum c =
    rw (← c.classify-v.ensures, c.in-BadSum.is, ← c.destination-in-BadSum.ensures)
    (record {
      answered = record { called = λ l. rw c.code-in-BadSum.ensures at (c.fault-in-BadSum.ensures c.args.waiting.now l c.args.flash.now); behind = refl };
      head_kept = λ e. cc;
      buffer_kept = λ e. refl;
    })

pub returns-in-Command : goal.returns-in-Command
unfolding handled
returns-in-Command c =
    rw (← c.classify-v.ensures, c.in-Command.is)
    (record { answered = c.serve.ensures; head_kept = λ e. cc; buffer_kept = λ e. cc })
