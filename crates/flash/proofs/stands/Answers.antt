-- `flash::stands` meets its contract: its two tests are those of the bytes joined, by `same_parts`.
use Rattle.std.proofs.Common.{◌≡◌, sym, ◌∙◌, ◌+◌, ◌-◌, arith, length}
use Rattle.flash.proofs.Laws.{same_parts}
use Rattle.flash.proofs.stands.Goals as goal

pub returns-then-not-matches : goal.returns-then-not-matches
returns-then-not-matches c =
    let at = c.args.at in
    let n : at + length c.args.first.now - at ≡ length c.args.first.now = omega arith in
    let first = sym (rw n at c.matches.ensures) ∙ c.if-not-matches.true in
    rw (same_parts c.args.flash.now at c.args.first.now c.args.second.now c.requires, first)

pub returns : goal.returns
returns c =
    let at = c.args.at in
    let n : at + length c.args.first.now - at ≡ length c.args.first.now = omega arith in
    let m : at + length c.args.first.now + length c.args.second.now - (at + length c.args.first.now) ≡ length c.args.second.now = omega arith in
    let first = sym (rw n at c.matches.ensures) ∙ c.if-not-matches.false in
    rw (same_parts c.args.flash.now at c.args.first.now c.args.second.now c.requires, first, rw m at c.matches-2.ensures)
