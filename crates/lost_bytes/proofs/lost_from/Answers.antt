-- `lost_bytes::lost_from` meets its contract. Invariant: what is counted, and what is lost of the bytes left, is all. By `lost_next`.
use Rattle.std.proofs.Common.{◌≡◌, ◌∙◌, ◌≤◌, cond, arith}
use Rattle.lost_bytes.specs.Lost.{lost_byte}
use Rattle.lost_bytes.proofs.LostLaws.{at_most_one, from_test, lost_next, lost_end}
use Rattle.lost_bytes.proofs.lost_from.Goals as goal

pub loop-i-preserved : goal.loop-i-preserved
loop-i-preserved c =
    let a = c.args in
    let i = c.loop-i.i in
    let step : c.from-n.result ≡ cond c.lost_byte.result 1 0 = c.from-n.ensures ∙ from_test c.lost_byte.result in
    let counted : c.from-n.result ≤ 1 = at_most_one _ step in
    let one = rw c.lost_byte.ensures at step in
    let next = lost_next a.flash.now a.first a.waiting.now a.address a.bytes.now i c.loop-i-test.true in
    (omega arith, omega (arith, c.loop-i.invariant.1, next, one))

pub returns : goal.returns
returns c =
    let a = c.args in
    let end = lost_end a.flash.now a.first a.waiting.now a.address a.bytes.now c.loop-i.i (omega arith) in
    omega (arith, c.loop-i.invariant.1, end)
