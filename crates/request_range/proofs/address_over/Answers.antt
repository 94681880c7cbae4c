-- `request_range::address_over` meets its contract: on either bus both sides are the same test.
use Rattle.request_range.proofs.address_over.Goals as goal

pub returns-in-I2c : goal.returns-in-I2c
returns-in-I2c c = rw c.in-I2c.is

pub returns-in-Rs485 : goal.returns-in-Rs485
returns-in-Rs485 c = rw c.in-Rs485.is
