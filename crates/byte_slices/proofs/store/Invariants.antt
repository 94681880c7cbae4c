use Rattle.std.proofs.Common.{◌≡◌}
use lib.Seq.{paste}
use Rattle.byte_slices.proofs.store.Given as goal

abbrev pub invariant-loop-i : goal.invariant-loop-i
invariant-loop-i l = l.d ≡ paste l.initial.d l.at l.bytes l.i
