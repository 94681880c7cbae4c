-- `read_query::read` meets its contract: its two tests are `readable`, and the part of flash that it lays over the buffer is the one asked.
use Rattle.std.proofs.Common.{le-leb, length, get_or, take, drop, length-take, length-drop, [], ◌+◌, ◌-◌, ◌<◌, ◌≤◌, ◌≡◌, arith}
use Rattle.laws.proofs.StateLaws.{unrefused_profile}
use Rattle.response.proofs.Laws.{few_fit, results_fit}
use Rattle.rules.specs.Commands.{shown}
use Rattle.rules.specs.Frames.{shortest_reply, number_at}
use borrow.Author.Tests.{lt-leb}
use Rattle.read_query.proofs.read.Goals as goal

pub reply-requires : goal.reply-requires
reply-requires c = few_fit c.args.p c.args.h _ _ c.args.at 0 c.requires.serving (omega arith)

pub returns-then-p-address : goal.returns-then-p-address
unfolding shown
returns-then-p-address c =
    let over : c.args.p.size < number_at c.args.args.now 0 + get_or c.args.args.now 2 0 =
    omega (arith, c.if-p-address.true, c.number_at-address.ensures.0, c.wide-n.ensures.0) in
    λ w' l. rw (lt-leb _ _ over) (rw c.code.ensures at (c.reply.ensures w' l c.args.flash.now))

pub longest_results-requires : goal.longest_results-requires
longest_results-requires c = (unrefused_profile (c.requires.serving.unrefused [] [])).longest_least

pub reply-requires-then-longest_results-n : goal.reply-requires-then-longest_results-n
reply-requires-then-longest_results-n c = few_fit c.args.p c.args.h _ _ c.args.at 0 c.requires.serving (omega arith)

pub returns-then-longest_results-n : goal.returns-then-longest_results-n
unfolding shown
returns-then-longest_results-n c =
    let within : number_at c.args.args.now 0 + get_or c.args.args.now 2 0 ≤ c.args.p.size =
    omega (arith, c.if-p-address.false, c.number_at-address.ensures.0, c.wide-n.ensures.0) in
    let over : c.args.p.longest - shortest_reply c.args.p.bus < get_or c.args.args.now 2 0 =
    omega (arith, c.if-longest_results-n.true, c.longest_results.ensures, c.wide-n.ensures.0) in
    λ w' l. rw (le-leb _ _ within, lt-leb _ _ over) (rw c.code-then-longest_results-n.ensures at (c.reply-then-longest_results-n.ensures w' l c.args.flash.now))

pub overflow_add-start : goal.overflow_add-start
overflow_add-start c =
    let room = (c.requires.serving.unrefused [] []).flash_holds in
    omega arith

pub overflow_add-end : goal.overflow_add-end
overflow_add-end c =
    let room = (c.requires.serving.unrefused [] []).flash_holds in
    omega arith

pub slice_bounds-reply-end-2 : goal.slice_bounds-reply-end-2
slice_bounds-reply-end-2 c =
    let room = (c.requires.serving.unrefused [] []).flash_holds in
    omega arith

pub reply-requires-2 : goal.reply-requires-2
reply-requires-2 c =
    let held = results_fit c.args.p c.args.h _ _ c.args.at c.wide-n.result c.requires.serving
    (omega (arith, c.if-longest_results-n.false, c.longest_results.ensures)) in
    simp (length-take, length-drop) (omega arith)

pub returns : goal.returns
unfolding shown
returns c =
    let within : number_at c.args.args.now 0 + get_or c.args.args.now 2 0 ≤ c.args.p.size =
    omega (arith, c.if-p-address.false, c.number_at-address.ensures.0, c.wide-n.ensures.0) in
    let held : get_or c.args.args.now 2 0 ≤ c.args.p.longest - shortest_reply c.args.p.bus =
    omega (arith, c.if-longest_results-n.false, c.longest_results.ensures, c.wide-n.ensures.0) in
    let start = c.args.p.offset + c.number_at-address.result in
    let long : start + c.wide-n.result - start ≡ c.wide-n.result = omega arith in
    λ w' l.
    rw (le-leb _ _ within, le-leb _ _ held, ← c.number_at-address.ensures.0, ← c.wide-n.ensures.0)
    (rw (long, c.code-2.ensures) at (c.reply-2.ensures w' l c.args.flash.now))
