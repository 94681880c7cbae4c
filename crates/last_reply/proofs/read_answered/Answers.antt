-- `last_reply::read_answered` meets its contract, by the bus.
use Rattle.last_reply.proofs.read_answered.Goals as goal

pub returns-in-I2c : goal.returns-in-I2c
returns-in-I2c c = λ w l. rw c.in-I2c.is (c.i2c_read_answered.ensures w l)

pub returns-in-Rs485 : goal.returns-in-Rs485
returns-in-Rs485 c = λ w l. rw c.in-Rs485.is
