-- `state_writer::clear` meets its contract: the first bytes are filled with zeros, the others stay.
use Rattle.std.proofs.Common.{◌≡◌, arith, length, take, length-take-le}
use lib.ListN.{replicate}
use Rattle.state_writer.proofs.clear.Goals as goal

pub returns : goal.returns
returns c =
    let long : length (take 404 c.args.b.now) ≡ 404 = length-take-le 404 c.args.b.now (omega arith) in
    let zeros : c.fill.new.self ≡ replicate (length (take 404 c.args.b.now)) 0 = c.fill.ensures.after (λ y e. e) in
    rw (zeros, long)
