-- `crc::crc16` meets its contract: by `crc_from`, whose steps by the table are those of the algorithm.
use Rattle.crc_steps.proofs.HalfByteLaws.{crc16_halved, eight_bits}
use Rattle.crc.proofs.crc16.Goals as goal

pub crc_from-requires-clause-by_table : goal.crc_from-requires-clause-by_table
crc_from-requires-clause-by_table c = eight_bits crc16_halved
