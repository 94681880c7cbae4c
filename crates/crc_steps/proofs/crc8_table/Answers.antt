-- `crc_steps::crc8_table` meets its contract: the test is computed over the whole table.
use Rattle.std.proofs.Common.{refl}
use Rattle.rules.specs.CheckSums.{bit}
use Rattle.crc_steps.specs.HalfBytes.{entries_right}
use Rattle.crc_steps.proofs.crc8_table.Goals as goal

pub returns : goal.returns
unfolding entries_right bit
returns c = refl
