-- `request_range::command_wrong` meets its contract: each return follows the definition past the tests that were passed.
use Rattle.std.proofs.Common.{arith, lt-ltb, le-ltb, eq-eqb, ne_eqb}
use Rattle.rules.specs.Master.{command_wrong}
use Rattle.laws.proofs.FrameLaws.{shortest_request-le}
use Rattle.request_range.proofs.command_wrong.Goals as goal

pub returns-then-not-served : goal.returns-then-not-served
unfolding command_wrong
returns-then-not-served c = rw (← c.served.ensures, c.if-not-served.true)

pub returns-then-not-length_allowed : goal.returns-then-not-length_allowed
unfolding command_wrong
returns-then-not-length_allowed c =
    rw (
      ← c.served.ensures,
      c.if-not-served.false,
      ← c.length_allowed.ensures,
      c.if-not-length_allowed.true,
    )

pub overflow_add-shortest_request : goal.overflow_add-shortest_request
overflow_add-shortest_request c = omega (arith, c.shortest_request.ensures, shortest_request-le c.args.bus)

pub returns-then-longest-shortest_request : goal.returns-then-longest-shortest_request
unfolding command_wrong
returns-then-longest-shortest_request c =
    rw (
      ← c.served.ensures,
      c.if-not-served.false,
      ← c.length_allowed.ensures,
      c.if-not-length_allowed.false,
      ← c.shortest_request.ensures,
      lt-ltb _ _ c.if-longest-shortest_request.true,
    )

pub returns-then-destination-eq0 : goal.returns-then-destination-eq0
unfolding command_wrong
returns-then-destination-eq0 c =
    rw (
      ← c.served.ensures,
      c.if-not-served.false,
      ← c.length_allowed.ensures,
      c.if-not-length_allowed.false,
      ← c.shortest_request.ensures,
      le-ltb _ _ c.if-longest-shortest_request.false,
      eq-eqb _ _ c.if-destination-eq0.true,
    )

pub returns-else-destination-eq0 : goal.returns-else-destination-eq0
unfolding command_wrong
returns-else-destination-eq0 c =
    rw (
      ← c.served.ensures,
      c.if-not-served.false,
      ← c.length_allowed.ensures,
      c.if-not-length_allowed.false,
      ← c.shortest_request.ensures,
      le-ltb _ _ c.if-longest-shortest_request.false,
      ne_eqb _ _ c.if-destination-eq0.false,
      ← c.address_over.ensures,
    )
