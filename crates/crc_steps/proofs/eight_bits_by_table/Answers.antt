-- `crc_steps::eight_bits_by_table` meets its contract: `eight_bits`, of both orders of bits.
use Rattle.crc_steps.proofs.HalfByteLaws.{most_first_halved, least_first_halved, eight_bits}
use Rattle.crc_steps.proofs.eight_bits_by_table.Goals as goal

pub returns : goal.returns
returns c = (
  λ poly start hp hs. eight_bits (most_first_halved poly start hp hs),
  λ width poly start hp hs. eight_bits (least_first_halved width poly start hp hs),
)
