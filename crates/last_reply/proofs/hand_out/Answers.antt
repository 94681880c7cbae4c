-- `last_reply::hand_out` meets its contract, by the test, and by what it lays into the output.
use Rattle.std.proofs.Common.{◌≡◌, ◌∙◌, arith, length, take, length-take}
use Rattle.rules.specs.State.{used}
use Rattle.rules.specs.Numbers.{laid}
use Rattle.laws.proofs.StateLaws.{used-take, length-used}
use Rattle.laws.proofs.LaidLaws.{overlay-first}
use Rattle.last_reply.proofs.hand_out.Goals as goal

pub returns-then-not-read_answered : goal.returns-then-not-read_answered
returns-then-not-read_answered c = λ w d. rw (← c.read_answered.ensures w c.args.last.now, c.if-not-read_answered.true)

pub slice_bounds-store-end : goal.slice_bounds-store-end
slice_bounds-store-end c = simp length-take (omega arith)

pub store-requires : goal.store-requires
store-requires c = simp length-take (omega arith)

pub returns : goal.returns
returns c =
    let laid-is : c.store.new.d ≡ laid (used c.args.h.len c.args.last.now) c.args.out.now =
    c.store.ensures ∙ overlay-first _ _ ∙ rw (used-take c.args.h.len c.args.last.now c.requires.0) in
    λ w d.
    rw (← c.read_answered.ensures w c.args.last.now, c.if-not-read_answered.false, laid-is, length-used c.args.h.len c.args.last.now)
