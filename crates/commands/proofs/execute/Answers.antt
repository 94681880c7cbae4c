-- `commands::execute` meets its contract: its tests are the definition's, in its order.
use Rattle.std.proofs.Common.{refl, sym, ◌∙◌, arith}
use Rattle.response.proofs.Laws.{few_fit}
use Rattle.rules.specs.Commands.{executed}
use Rattle.commands.proofs.Laws.{row-served, row_allowed}
use Rattle.commands.proofs.execute.Goals as goal

pub reply-requires : goal.reply-requires
reply-requires c = few_fit c.args.p c.args.h _ _ c.args.at 0 c.requires.serving (omega arith)

pub returns-then-not-row_serves : goal.returns-then-not-row_serves
unfolding executed
returns-then-not-row_serves c =
    let s = c.row_serves in
    record {
      ruled = λ l.
          rw (← row-served c.args.code c.row-row.result c.row-row.ensures s.ensures, c.if-not-row_serves.true)
          (rw c.code.ensures at (c.reply.ensures c.args.waiting.now l c.args.flash.now));
      behind = refl;
    }

pub reply-requires-then-not-row_allows : goal.reply-requires-then-not-row_allows
reply-requires-then-not-row_allows c = few_fit c.args.p c.args.h _ _ c.args.at 0 c.requires.serving (omega arith)

pub returns-then-not-row_allows : goal.returns-then-not-row_allows
unfolding executed
returns-then-not-row_allows c =
    let s = c.row_serves in
    let a = c.row_allows in
    let row = c.row-row in
    record {
      ruled = λ l.
          rw (
            ← row-served c.args.code row.result row.ensures s.ensures,
            c.if-not-row_serves.false,
            ← row_allowed c.args.code row.result row.ensures _ a.ensures,
            c.if-not-row_allows.true,
          )
          (rw c.code-then-not-row_allows.ensures at (c.reply-then-not-row_allows.ensures c.args.waiting.now l c.args.flash.now));
      behind = refl;
    }

pub perform-requires : goal.perform-requires
perform-requires c =
    let a = c.row_allows in record {
      serving = c.requires.serving;
      waiting_len = c.requires.waiting_len;
      args_value = sym (row_allowed c.args.code c.row-row.result c.row-row.ensures _ a.ensures) ∙ c.if-not-row_allows.false;
    }

pub returns : goal.returns
unfolding executed
returns c =
    let s = c.row_serves in
    let a = c.row_allows in
    let row = c.row-row in
    let done = c.perform.ensures in
    record {
      ruled = λ l.
          rw (
            ← row-served c.args.code row.result row.ensures s.ensures,
            c.if-not-row_serves.false,
            ← row_allowed c.args.code row.result row.ensures _ a.ensures,
            c.if-not-row_allows.false,
          )
          (done.ruled l);
      behind = done.behind;
    }
