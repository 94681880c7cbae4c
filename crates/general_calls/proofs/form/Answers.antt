-- `general_calls::form` meets its contract: antt computes the check sum of each form.
use Rattle.rules.specs.CheckSums.{bit, byte, run, sum, sealed}
use Rattle.rules.specs.Frames.{reset_address_frame, reset_frame}
use Rattle.general_calls.proofs.form.Goals as goal

pub returns-in-ResetAddress : goal.returns-in-ResetAddress
unfolding reset_address_frame
returns-in-ResetAddress c = rw (c.in-I2c.is, c.in-ResetAddress.is)

pub returns-in-Reset : goal.returns-in-Reset
unfolding reset_frame
returns-in-Reset c = rw (c.in-I2c.is, c.in-Reset.is)

pub returns-in-ResetAddress-call : goal.returns-in-ResetAddress-call
unfolding reset_address_frame sealed sum run byte bit
returns-in-ResetAddress-call c = rw (c.in-Rs485.is, c.in-ResetAddress-call.is)

pub returns-in-Reset-call : goal.returns-in-Reset-call
unfolding reset_frame sealed sum run byte bit
returns-in-Reset-call c = rw (c.in-Rs485.is, c.in-Reset-call.is)
