-- `frame::seal::seal` meets its contract: the check sum's bytes are stored behind the first n. By `sealing_one` and `sealing_two`.
use Rattle.std.proofs.Common.{◌≡◌, sym, arith, length, take, length-set, length-take-le, rules}
use Rattle.frame.proofs.SealLaws.{sum_some, sealing_one, sealing_two}
use Rattle.frame.proofs.seal.seal.Goals as goal

pub slice_bounds-sum_bytes-end-2 : goal.slice_bounds-sum_bytes-end-2
slice_bounds-sum_bytes-end-2 c = sym (length-take-le c.args.n c.args.buffer.now (omega arith))

pub bounds-buffer-n : goal.bounds-buffer-n
bounds-buffer-n c = omega (arith, sum_some c.args.bus)

pub bounds-buffer-n-in-Rs485 : goal.bounds-buffer-n-in-Rs485
bounds-buffer-n-in-Rs485 c =
    let room = rw c.in-Rs485.is at c.requires in
    simp length-set (omega (arith, room))

pub returns-in-I2c : goal.returns-in-I2c
returns-in-I2c c =
    let i2c = c.in-I2c.is in
    let two : length c.sum_bytes-sum.result ≡ 2 = search rules in
    rw i2c (sealing_one c.args.n c.sum_bytes-sum.result c.args.buffer.now
    (omega (arith, sum_some c.args.bus)) two (rw i2c at c.sum_bytes-sum.ensures))

pub returns-in-Rs485 : goal.returns-in-Rs485
returns-in-Rs485 c =
    let rs485 = c.in-Rs485.is in
    let two : length c.sum_bytes-sum.result ≡ 2 = search rules in
    let room = rw rs485 at c.requires in
    rw rs485 (sealing_two c.args.n c.sum_bytes-sum.result c.args.buffer.now
    (omega (arith, room)) two (omega (arith, room)) (rw rs485 at c.sum_bytes-sum.ensures))
