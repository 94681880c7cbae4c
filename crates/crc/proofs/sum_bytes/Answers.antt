-- `crc::sum_bytes` meets its contract: by the bus, the bytes of its check sum.
use Rattle.rules.specs.CheckSums.{sum}
use Rattle.crc.proofs.sum_bytes.Goals as goal

pub returns-in-I2c : goal.returns-in-I2c
unfolding sum
returns-in-I2c c = rw (c.in-I2c.is, c.crc8.ensures)

pub returns-in-Rs485 : goal.returns-in-Rs485
unfolding sum
returns-in-Rs485 c = rw (c.in-Rs485.is, c.low_first.ensures, c.crc16.ensures)
