-- `text::read::number` meets its contract: the value so far, with the digits left, spells what the whole slice spells.
use Rattle.std.proofs.Common.{◌≤◌, length, sym, ◌∙◌, arith, drop_of_length-le}
use Rattle.text.specs.Read.{spelled}
use Rattle.text.proofs.ReadLaws.{spelled_next, spelled_wrong}
use Rattle.text.proofs.read.number.Goals as goal

pub returns-in_err-value : goal.returns-in_err-value
returns-in_err-value c =
    let wrong = spelled_wrong c.args.most c.loop-c.value c.args.s.now c.loop-c.c-index (omega arith) (sym c.in_err-value.ensures.value) in
    c.from_residual.ensures ∙ sym wrong ∙ c.loop-c.invariant.1

pub loop-c-preserved : goal.loop-c-preserved
loop-c-preserved c =
    let next =
    spelled_next c.args.most c.loop-c.value c.args.s.now c.loop-c.c-index _ (omega arith) (sym c.in_ok-value.ensures.value) in
    (omega (arith, c.in_ok-value.ensures.small), sym next ∙ c.loop-c.invariant.1)

pub returns : goal.returns
unfolding spelled
returns c =
    let done : length c.args.s.now ≤ c.loop-c.c-index = omega arith in
    rw (drop_of_length-le _ done) at c.loop-c.invariant.1
