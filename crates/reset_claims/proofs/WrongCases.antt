-- What the wrong boards of W4 are tried on, and all that a proof by computation opens.
use Rattle.rules.specs.declared.kinds.Bus.TheVariants.{I2c}
use Rattle.rules.specs.Master.{request_bytes, argument_wrong, encoded, fixed_part, opened, decoded, version_rule, running_reset}
use Rattle.wrongboards.proofs.Computing.{computing}
use Rattle.reset_claims.specs.Running.{ResetInput}

unfoldable pub computing_reset : Unit {0}
unfolding computing request_bytes argument_wrong encoded fixed_part opened decoded version_rule running_reset
computing_reset = tt

-- version 0.0 on I²C
abbrev pub zero_input : ResetInput
zero_input = record { bus = I2c; longest = 128; major = 0; minor = 0; room = 1 }
