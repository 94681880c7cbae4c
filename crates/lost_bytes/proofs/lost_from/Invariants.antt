use Rattle.std.proofs.Common.{◌≡◌, ◌+◌, ◌≤◌, drop}
use Rattle.lost_bytes.specs.Lost.{lost_from}
use Rattle.lost_bytes.proofs.lost_from.Given as goal

abbrev pub invariant-loop-i : goal.invariant-loop-i
invariant-loop-i l =
    (l.n ≤ l.i)
    × (lost_from l.flash l.first l.waiting l.address l.bytes
    ≡ l.n + lost_from l.flash l.first l.waiting (l.address + l.i) (drop l.i l.bytes))
