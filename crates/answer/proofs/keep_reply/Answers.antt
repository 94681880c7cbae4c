-- `answer::keep_reply` meets its contract, by the bus.
use Rattle.std.proofs.Common.{◌∙◌, arith, take, length-take}
use Rattle.laws.proofs.LaidLaws.{overlay-first}
use Rattle.answer.proofs.keep_reply.Goals as goal

pub slice_bounds-store-end : goal.slice_bounds-store-end
slice_bounds-store-end c = simp length-take (omega arith)

pub store-requires : goal.store-requires
store-requires c = simp length-take (omega arith)

pub returns-in-I2c : goal.returns-in-I2c
returns-in-I2c c = rw c.in-I2c.is (c.store.ensures ∙ overlay-first _ _)
