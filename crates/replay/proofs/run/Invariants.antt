use Rattle.std.proofs.Common.{length}
use Rattle.script.proofs.Following.{Reached}
use Rattle.replay.proofs.run.Given as goal

abbrev pub invariant-loop-rest : goal.invariant-loop-rest
invariant-loop-rest l =
    Reached l.p l.script l.initial.flash l.initial.out l.rest l.s l.flash l.out

abbrev pub decreases-loop-rest : goal.decreases-loop-rest
decreases-loop-rest l = length l.rest
