-- `frame::header::write_header` meets its contract, by the bus: nothing, or the address set at the front. By `laid_snoc`.
use Rattle.std.proofs.Common.{refl, [], ◌≤◌, arith, length}
use Rattle.laws.proofs.LaidLaws.{laid_snoc}
use Rattle.frame.proofs.header.write_header.Goals as goal

pub bounds-out-0 : goal.bounds-out-0
bounds-out-0 c =
    let room : 1 ≤ length c.args.out.now = rw c.in-Rs485.is at c.requires in
    omega arith

pub returns-in-Rs485 : goal.returns-in-Rs485
returns-in-Rs485 c =
    let room : 1 ≤ length c.args.out.now = rw c.in-Rs485.is at c.requires in
    rw c.in-Rs485.is (refl, laid_snoc [] c.args.out.now 0 _ refl (omega arith))
