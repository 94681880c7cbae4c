use Rattle.std.proofs.Common.{◌≡◌, ◌≤◌, Some, drop}
use Rattle.text.specs.Read.{spelled, number_of}
use Rattle.text.proofs.read.number.Given as goal

abbrev pub invariant-loop-c : goal.invariant-loop-c
invariant-loop-c l = (l.value ≤ l.most) × (spelled l.most (Some l.value) (drop l.c-index l.s) ≡ number_of l.most l.s)
