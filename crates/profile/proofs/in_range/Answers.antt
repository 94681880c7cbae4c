-- `profile::in_range` meets its contract: each test of the code is one of the rule; a hardware type of one byte is at most 255.
use Rattle.std.proofs.Common.{◌≤◌, rules, le-leb}
use borrow.Author.Tests.{lt-leb}
use Rattle.rules.specs.Profile.{in_range}
use Rattle.laws.proofs.StateLaws.{length-used, page_in_range_bounds}
use Rattle.profile.proofs.Laws.{answered_false, answered_true}
use Rattle.profile.proofs.in_range.Goals as goal

pub returns-then-not-frame_in_range : goal.returns-then-not-frame_in_range
unfolding in_range
returns-then-not-frame_in_range c = rw (answered_false c.frame_in_range.ensures c.if-not-frame_in_range.true)

pub returns-then-not-page_in_range : goal.returns-then-not-page_in_range
unfolding in_range
returns-then-not-page_in_range c =
    rw (
      answered_true c.frame_in_range.ensures c.if-not-frame_in_range.false,
      answered_false c.page_in_range.ensures c.if-not-page_in_range.true,
    )

pub size_in_range-requires : goal.size_in_range-requires
size_in_range-requires c = (page_in_range_bounds _ (answered_true c.page_in_range.ensures c.if-not-page_in_range.false)).0

pub returns-then-not-size_in_range : goal.returns-then-not-size_in_range
unfolding in_range
returns-then-not-size_in_range c =
    rw (
      answered_true c.frame_in_range.ensures c.if-not-frame_in_range.false,
      answered_true c.page_in_range.ensures c.if-not-page_in_range.false,
      answered_false c.size_in_range.ensures c.if-not-size_in_range.true,
    )

pub offset_in_range-requires : goal.offset_in_range-requires
offset_in_range-requires c = (page_in_range_bounds _ (answered_true c.page_in_range.ensures c.if-not-page_in_range.false)).0

pub returns-then-not-offset_in_range : goal.returns-then-not-offset_in_range
unfolding in_range
returns-then-not-offset_in_range c =
    rw (
      answered_true c.frame_in_range.ensures c.if-not-frame_in_range.false,
      answered_true c.page_in_range.ensures c.if-not-page_in_range.false,
      answered_true c.size_in_range.ensures c.if-not-size_in_range.false,
      answered_false c.offset_in_range.ensures c.if-not-offset_in_range.true,
    )

pub returns-then-p-lt1 : goal.returns-then-p-lt1
unfolding in_range
returns-then-p-lt1 c =
    rw (
      answered_true c.frame_in_range.ensures c.if-not-frame_in_range.false,
      answered_true c.page_in_range.ensures c.if-not-page_in_range.false,
      answered_true c.size_in_range.ensures c.if-not-size_in_range.false,
      answered_true c.offset_in_range.ensures c.if-not-offset_in_range.false,
      lt-leb _ _ c.if-p-lt1.true,
    )

pub returns : goal.returns
unfolding in_range
returns c =
    let hardware : c.args.p.hardware ≤ 255 = search rules in
    rw (
      answered_true c.frame_in_range.ensures c.if-not-frame_in_range.false,
      answered_true c.page_in_range.ensures c.if-not-page_in_range.false,
      answered_true c.size_in_range.ensures c.if-not-size_in_range.false,
      answered_true c.offset_in_range.ensures c.if-not-offset_in_range.false,
      le-leb _ _ c.if-p-lt1.false,
      le-leb _ _ hardware,
      length-used c.args.p.seriallen c.args.p.serial,
    )
