-- `crc::crc8` meets its contract: by `crc_from`, whose steps by the table are those of the algorithm.
use Rattle.crc_steps.proofs.HalfByteLaws.{crc8_halved, eight_bits}
use Rattle.crc.proofs.crc8.Goals as goal

pub crc_from-requires-clause-by_table : goal.crc_from-requires-clause-by_table
crc_from-requires-clause-by_table c = eight_bits crc8_halved
