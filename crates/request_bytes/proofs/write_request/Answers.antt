-- `request_bytes::write_request` meets its contract: each arm writes the line of the definition for its request.
use Rattle.std.proofs.Common.{◌≡◌, arith, length, rules}
use Rattle.rules.specs.Master.{request_bytes}
use Rattle.request_bytes.proofs.write_request.Goals as goal

pub write_command-requires : goal.write_command-requires
write_command-requires c =
    let pre = rw c.in-Plain.is at c.requires in
    (pre.0.0, pre.0.1, omega (arith, pre.2))

pub overflow_cast-arguments : goal.overflow_cast-arguments
overflow_cast-arguments c =
    let pre = rw c.in-SetAddress.is at c.requires in
    omega (arith, pre.1.0)

pub overflow_cast-arguments-in-SetAddress : goal.overflow_cast-arguments-in-SetAddress
overflow_cast-arguments-in-SetAddress c =
    let pre = rw c.in-SetAddress.is at c.requires in
    omega (arith, pre.1.1)

pub write_command-requires-in-SetAddress : goal.write_command-requires-in-SetAddress
write_command-requires-in-SetAddress c =
    let pre = rw c.in-SetAddress.is at c.requires in
    (pre.0.0, omega arith, omega (arith, pre.2))

pub two_bytes-arguments-requires : goal.two_bytes-arguments-requires
two_bytes-arguments-requires c =
    let pre = rw c.in-Write.is at c.requires in
    omega (arith, pre.1)

pub write_command-requires-in-Write : goal.write_command-requires-in-Write
write_command-requires-in-Write c =
    let two : length c.two_bytes-arguments.result ≡ 2 = search rules in
    let pre = rw c.in-Write.is at c.requires in
    (pre.0.0, omega arith, omega (arith, pre.2))

pub two_bytes-place-requires : goal.two_bytes-place-requires
two_bytes-place-requires c =
    let pre = rw c.in-Read.is at c.requires in
    omega (arith, pre.1.0)

pub overflow_cast-length : goal.overflow_cast-length
overflow_cast-length c =
    let pre = rw c.in-Read.is at c.requires in
    omega (arith, pre.1.1)

pub write_command-requires-in-Read : goal.write_command-requires-in-Read
write_command-requires-in-Read c =
    let two : length c.two_bytes-place.result ≡ 2 = search rules in
    let pre = rw c.in-Read.is at c.requires in
    (pre.0.0, omega arith, omega (arith, pre.2))

pub write_general-requires : goal.write_general-requires
write_general-requires c =
    let pre = rw c.in-ResetAddress.is at c.requires in
    pre.2

pub write_general-requires-in-Reset : goal.write_general-requires-in-Reset
write_general-requires-in-Reset c =
    let pre = rw c.in-Reset.is at c.requires in
    pre.2

pub returns-in-Plain : goal.returns-in-Plain
unfolding request_bytes
returns-in-Plain c =
    rw c.in-Plain.is c.write_command.ensures

pub returns-in-SetAddress : goal.returns-in-SetAddress
unfolding request_bytes
returns-in-SetAddress c =
    rw c.in-SetAddress.is c.write_command-in-SetAddress.ensures

pub returns-in-Write : goal.returns-in-Write
unfolding request_bytes
returns-in-Write c =
    rw c.in-Write.is
    (rw c.two_bytes-arguments.ensures at c.write_command-in-Write.ensures)

pub returns-in-Read : goal.returns-in-Read
unfolding request_bytes
returns-in-Read c =
    rw c.in-Read.is
    (rw c.two_bytes-place.ensures at c.write_command-in-Read.ensures)

pub returns-in-ResetAddress : goal.returns-in-ResetAddress
unfolding request_bytes
returns-in-ResetAddress c =
    let said = c.write_general.ensures in
    rw c.in-ResetAddress.is (record { length_is = said.0; output_is = said.1 })

pub returns-in-Reset : goal.returns-in-Reset
unfolding request_bytes
returns-in-Reset c =
    let said = c.write_general-in-Reset.ensures in
    rw c.in-Reset.is (record { length_is = said.0; output_is = said.1 })
