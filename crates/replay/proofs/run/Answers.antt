-- `replay::run` meets its contract. Invariant: `Reached`, the records before `rest` were followed. A turn follows one more, by
-- `reached_record`; where `rest` begins with no whole record, the script is at its end, by `reached_end`.
use Rattle.std.proofs.Common.{◌≡◌, refl, ap, ◌∙◌, ℕ, ◌+◌, arith, length, take, drop, get_or, drop-drop, rules, le-leb}
use borrow.Author.Tests.{lt-leb}
use Rattle.script.specs.Script.{head, input_by, frame_length}
use Rattle.script.proofs.Following.{reached_none, reached_record, reached_end}
use Rattle.replay.proofs.run.Goals as goal

pub loop-rest-init : goal.loop-rest-init
loop-rest-init c = reached_none _ _ _ _ c.fresh-s.result c.fresh-s.ensures.all

pub returns-then-behind-n : goal.returns-then-behind-n
returns-then-behind-n c =
    let rest = c.loop-rest.rest.now in
    reached_end _ _ _ _ c.loop-rest.invariant
    (lt-leb _ (length rest)
    (omega (arith, c.frame_length-n.ensures, c.split_at.ensures.back_len, c.if-behind-n.true)))

pub loop-rest-preserved : goal.loop-rest-preserved
loop-rest-preserved c =
    let rest = c.loop-rest.rest.now in
    let n = c.frame_length-n.result in
    let n_is = c.frame_length-n.ensures in
    let cut = c.split_at.ensures.back in
    let next = c.split_at-in-loop-rest in
    let frame_is : next.result.0.now ≡ take (frame_length rest) (drop head rest) =
    next.ensures.front ∙ ap (take n) cut ∙ ap (λ (k : ℕ). take k (drop head rest)) n_is in
    let next_is : next.result.1.now ≡ drop (head + frame_length rest) rest =
    next.ensures.back ∙ ap (drop n) cut ∙ drop-drop n head rest ∙ ap (λ (k : ℕ). drop (head + k) rest) n_is in
    reached_record _ c.args.script.now _ _ c.loop-rest.invariant
    (record {
      input = input_by (get_or rest 0 0) (get_or rest 1 0) next.result.0.now;
      before = c.loop-rest.out;
      after = c.call-answer.new.out;
      answer = c.call-answer.result;
      flash = c.call-answer.new.flash;
    })
    next.result.1.now
    (le-leb (head + frame_length rest) (length rest)
    (omega (arith, n_is, c.split_at.ensures.back_len, c.if-behind-n.false, c.loop-rest-test.true)))
    next_is
    refl
    (search rules)
    (search rules)
    (rw frame_is)
    c.call-answer.ensures

pub returns : goal.returns
returns c =
    reached_end _ _ _ _ c.loop-rest.invariant
    (lt-leb _ (length c.loop-rest.rest.now) (omega (arith, c.loop-rest-test.false)))
