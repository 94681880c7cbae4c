-- The bytes that were read fit the slice, which keeps its length.
use Rattle.std.proofs.Common.{◌≡◌, ◌≤◌, length}
use Rattle.bench_script.proofs.fields.pairs.Given as goal

abbrev pub invariant-loop-word : goal.invariant-loop-word
invariant-loop-word l = (l.n ≤ length l.fn.out) × (length l.out ≡ length l.fn.out)

abbrev pub invariant-loop-pair : goal.invariant-loop-pair
invariant-loop-pair l = (l.n ≤ length l.fn.out) × (length l.out ≡ length l.fn.out)
