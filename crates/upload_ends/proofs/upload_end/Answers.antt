-- `upload_ends::upload_end` meets its contract, by its two comparisons.
use Rattle.std.proofs.Common.{sym, ◌∙◌}
use Rattle.upload_ends.specs.Ends.{upload_end}
use Rattle.upload_ends.proofs.upload_end.Goals as goal

pub returns-then-begins_with : goal.returns-then-begins_with
unfolding upload_end
returns-then-begins_with c = rw (sym (rw c.part_of-new.ensures at c.begins_with.ensures) ∙ c.if-begins_with.true)

pub returns-then-matches : goal.returns-then-matches
unfolding upload_end
returns-then-matches c =
    let new = c.part_of-new.ensures in
    rw (
      sym (rw new at c.begins_with.ensures) ∙ c.if-begins_with.false,
      sym (rw (c.part_of.ensures, new) at c.matches.ensures) ∙ c.if-matches.true,
    )

pub returns : goal.returns
unfolding upload_end
returns c =
    let new = c.part_of-new.ensures in
    rw (
      sym (rw new at c.begins_with.ensures) ∙ c.if-begins_with.false,
      sym (rw (c.part_of.ensures, new) at c.matches.ensures) ∙ c.if-matches.false,
    )
