-- `request_range::argument_wrong` meets its contract: each arm is the line of the definition for its request.
use Rattle.std.proofs.Common.{sym, length}
use mathlib.Core.Bool.{or-false}
use native.Mathlib.Numerals.{add-two}
use Rattle.rules.specs.Master.{argument_wrong}
use Rattle.request_range.proofs.argument_wrong.Goals as goal

pub returns-in-Plain : goal.returns-in-Plain
unfolding argument_wrong
returns-in-Plain c = rw (c.in-Plain.is, c.command_wrong.ensures) (sym (or-false _))

pub returns-then-command_wrong : goal.returns-then-command_wrong
unfolding argument_wrong
returns-then-command_wrong c = rw (c.in-SetAddress.is, ← c.command_wrong-in-SetAddress.ensures, c.if-command_wrong.true)

pub returns-else-command_wrong : goal.returns-else-command_wrong
unfolding argument_wrong
returns-else-command_wrong c =
    rw (c.in-SetAddress.is, ← c.command_wrong-in-SetAddress.ensures, c.if-command_wrong.false, c.set_address_wrong.ensures)

pub returns-then-command_wrong-2 : goal.returns-then-command_wrong-2
unfolding argument_wrong
returns-then-command_wrong-2 c =
    let n = length c.args.bytes.now in
    rw (c.in-Write.is, ← add-two n, ← c.command_wrong-in-Write.ensures, c.if-command_wrong-2.true)

pub returns-else-command_wrong-2 : goal.returns-else-command_wrong-2
unfolding argument_wrong
returns-else-command_wrong-2 c =
    let n = length c.args.bytes.now in
    rw (c.in-Write.is, ← add-two n, ← c.command_wrong-in-Write.ensures, c.if-command_wrong-2.false)

pub returns-then-command_wrong-3 : goal.returns-then-command_wrong-3
unfolding argument_wrong
returns-then-command_wrong-3 c = rw (c.in-Read.is, ← c.command_wrong-in-Read.ensures, c.if-command_wrong-3.true)

pub returns-else-command_wrong-3 : goal.returns-else-command_wrong-3
unfolding argument_wrong
returns-else-command_wrong-3 c =
    rw (c.in-Read.is, ← c.command_wrong-in-Read.ensures, c.if-command_wrong-3.false, c.read_wrong.ensures)

pub returns-in-ResetAddress : goal.returns-in-ResetAddress
unfolding argument_wrong
returns-in-ResetAddress c = rw c.in-ResetAddress.is

pub returns-in-Reset : goal.returns-in-Reset
unfolding argument_wrong
returns-in-Reset c = rw c.in-Reset.is
