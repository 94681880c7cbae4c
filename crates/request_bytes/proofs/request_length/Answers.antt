-- `request_bytes::request_length` meets its contract: each arm is the line of the definition for its request.
use Rattle.std.proofs.Common.{sym, add-zero, arith}
use Rattle.laws.proofs.FrameLaws.{shortest_request-le}
use Rattle.request_bytes.proofs.request_length.Goals as goal

pub overflow_add-result : goal.overflow_add-result
overflow_add-result c = omega (arith, c.shortest_request-shortest.ensures, shortest_request-le c.args.bus)

pub overflow_add-result-in-Write : goal.overflow_add-result-in-Write
overflow_add-result-in-Write c = omega (arith, c.shortest_request-shortest.ensures, shortest_request-le c.args.bus)

pub overflow_add-result-in-Write-2 : goal.overflow_add-result-in-Write-2
overflow_add-result-in-Write-2 c = omega (arith, c.shortest_request-shortest.ensures, shortest_request-le c.args.bus)

pub overflow_add-result-in-Read : goal.overflow_add-result-in-Read
overflow_add-result-in-Read c = omega (arith, c.shortest_request-shortest.ensures, shortest_request-le c.args.bus)

pub returns-in-Plain : goal.returns-in-Plain
returns-in-Plain c = rw (c.in-Plain.is, c.shortest_request-shortest.ensures) (sym (add-zero _))

pub returns-in-SetAddress : goal.returns-in-SetAddress
returns-in-SetAddress c = rw (c.in-SetAddress.is, c.shortest_request-shortest.ensures)

pub returns-in-Write : goal.returns-in-Write
returns-in-Write c = rw (c.in-Write.is, c.shortest_request-shortest.ensures) (omega arith)

pub returns-in-Read : goal.returns-in-Read
returns-in-Read c = rw (c.in-Read.is, c.shortest_request-shortest.ensures)
