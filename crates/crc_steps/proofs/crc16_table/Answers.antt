-- `crc_steps::crc16_table` meets its contract: the test is computed over the whole table.
use Rattle.std.proofs.Common.{refl}
use Rattle.rules.specs.CheckSums.{bit}
use Rattle.crc_steps.specs.HalfBytes.{entries_right}
use Rattle.crc_steps.proofs.crc16_table.Goals as goal

pub returns : goal.returns
unfolding entries_right bit
returns c = refl
