use Rattle.std.proofs.Common.{◌≡◌, ◌*◌, ◌+◌, length}
use Rattle.std.specs.Slice.Iter.{chunks_exact_rest, chunks_exact_size}
use Rattle.std.proofs.lemmas.List.Edits.{sets}
use Rattle.text.specs.Read.{hex_bytes}
use Rattle.text.proofs.read.lay_pairs.Given as goal

abbrev pub invariant-loop-k : goal.invariant-loop-k
invariant-loop-k l =
    (chunks_exact_size l.k-iterator.iter ≡ 2) × (length (chunks_exact_rest l.k-iterator.iter) + 2 * l.k-iterator.count ≡ length l.s)
    × (length l.out ≡ length l.initial.out)
    × (sets l.out l.k-iterator.count (hex_bytes (chunks_exact_rest l.k-iterator.iter)) ≡ sets l.initial.out 0 (hex_bytes l.s))
