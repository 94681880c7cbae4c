-- `refusal::refuse` meets its contract: its four tests are those of `refusal`, in the same order.
use Rattle.std.proofs.Common.{sym, ◌∙◌}
use Rattle.rules.specs.Numbers.{refusal}
use Rattle.profile.proofs.Laws.{answered_false, answered_true}
use Rattle.refusal.specs.Checks.{check_of}
use Rattle.refusal.proofs.refuse.Goals as goal

pub returns-then-not-in_range : goal.returns-then-not-in_range
unfolding refusal check_of
returns-then-not-in_range c = λ w l. rw (answered_false c.in_range.ensures c.if-not-in_range.true)

pub returns-then-flash_short : goal.returns-then-flash_short
unfolding refusal check_of
returns-then-flash_short c =
    λ w l.
    rw (
      answered_true c.in_range.ensures c.if-not-in_range.false,
      sym c.flash_short.ensures ∙ c.if-flash_short.true,
    )

pub well_formed-requires : goal.well_formed-requires
well_formed-requires c = answered_true c.in_range.ensures c.if-not-in_range.false

pub returns-then-not-well_formed : goal.returns-then-not-well_formed
unfolding refusal check_of
returns-then-not-well_formed c =
    λ w l.
    rw (
      answered_true c.in_range.ensures c.if-not-in_range.false,
      sym c.flash_short.ensures ∙ c.if-flash_short.false,
      answered_false (c.well_formed-2.ensures w l) c.if-not-well_formed.true,
    )

pub returns-then-buffer_short : goal.returns-then-buffer_short
unfolding refusal check_of
returns-then-buffer_short c =
    λ w l.
    rw (
      answered_true c.in_range.ensures c.if-not-in_range.false,
      sym c.flash_short.ensures ∙ c.if-flash_short.false,
      answered_true (c.well_formed-2.ensures w l) c.if-not-well_formed.false,
      sym c.buffer_short.ensures ∙ c.if-buffer_short.true,
    )

pub returns : goal.returns
unfolding refusal check_of
returns c =
    λ w l.
    rw (
      answered_true c.in_range.ensures c.if-not-in_range.false,
      sym c.flash_short.ensures ∙ c.if-flash_short.false,
      answered_true (c.well_formed-2.ensures w l) c.if-not-well_formed.false,
      sym c.buffer_short.ensures ∙ c.if-buffer_short.false,
    )
