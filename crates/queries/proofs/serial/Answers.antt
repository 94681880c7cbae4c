-- `queries::serial` meets its contract: the first bytes of the array are the serial in use.
use Rattle.std.proofs.Common.{eq-eqb, ne_eqb, length, length-take, ◌≡◌, arith, rules}
use Rattle.laws.proofs.StateLaws.{used-take, length-used}
use Rattle.queries.proofs.serial.Goals as goal

pub returns-then-len-eq0 : goal.returns-then-len-eq0
returns-then-len-eq0 c =
    λ w l d. rw (length-used c.args.p.seriallen c.args.p.serial, eq-eqb _ _ c.if-len-eq0.true)
    (rw c.code.ensures at (c.reply.ensures w l d))

pub slice_bounds-bytes-end : goal.slice_bounds-bytes-end
slice_bounds-bytes-end c =
    let h : length c.args.p.serial ≡ 16 = search rules in
    omega arith

pub reply-requires-2 : goal.reply-requires-2
reply-requires-2 c =
    let h : length c.args.p.serial ≡ 16 = search rules in
    simp length-take (omega arith)

pub returns : goal.returns
returns c =
    let h : length c.args.p.serial ≡ 16 = search rules in
    λ w l d.
    rw (
      length-used c.args.p.seriallen c.args.p.serial,
      ne_eqb _ _ c.if-len-eq0.false,
      used-take c.args.p.seriallen c.args.p.serial (omega arith),
    )
    (rw c.code-2.ensures at (c.reply-2.ensures w l d))
