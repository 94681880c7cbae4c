-- The form of either general call, and how many bytes it has.
use Rattle.std.specs.Prelude.{List, ℕ}
use Rattle.rules.specs.declared.kinds.Bus.{Bus}
use Rattle.rules.specs.declared.kinds.Bus.TheVariants.{I2c, Rs485}
use Rattle.rules.specs.Frames.{reset_address_frame, reset_frame}
use Rattle.general_calls.specs.declared.General.{General}
use Rattle.general_calls.specs.declared.General.TheVariants.{ResetAddress, Reset}

abbrev pub general_frame : Bus → General → List ℕ
general_frame bus ResetAddress = reset_address_frame bus
general_frame bus Reset = reset_frame bus

abbrev pub general_length : Bus → ℕ
general_length I2c = 1
general_length Rs485 = 4
