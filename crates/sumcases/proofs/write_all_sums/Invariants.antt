-- `sumcases::write_all_sums`: each record leaves less of the input.
use Rattle.std.proofs.Common.{length}
use Rattle.sumcases.proofs.write_all_sums.Given as goal

abbrev pub decreases-loop-bytes : goal.decreases-loop-bytes
decreases-loop-bytes g l = length l.input
