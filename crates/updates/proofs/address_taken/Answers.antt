-- `updates::address_taken` meets its contract, by the bus.
use Rattle.updates.proofs.address_taken.Goals as goal

pub returns-in-I2c : goal.returns-in-I2c
returns-in-I2c c = rw c.in-I2c.is
