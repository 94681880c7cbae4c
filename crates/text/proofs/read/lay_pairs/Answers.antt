-- `text::read::lay_pairs` meets its contract: the bytes of the pairs left, stored after those stored, are the bytes of all.
use Rattle.std.proofs.Common.{length, ap, ◌∙◌, add-one, arith, length-set, length-append}
use Rattle.std.specs.Slice.Iter.{chunks_exact_rest}
use Rattle.text.proofs.ReadLaws.{hex_bytes_next, hex_bytes-rest}
use Rattle.text.proofs.read.lay_pairs.Goals as goal

pub loop-k-preserved : goal.loop-k-preserved
loop-k-preserved c =
    let steps = c.in-Some.ensures.steps in
    let cut = steps.0.1 in
    let next = hex_bytes_next _ _ _ cut.0 (cut.1 ∙ c.loop-k.invariant.0) in (
      steps.0.0 ∙ c.loop-k.invariant.0,
      omega (arith, simp length-append at (ap length cut.0)),
      simp length-set c.loop-k.invariant.2,
      rw (steps.1, steps.2, add-one, c.pair.ensures) (rw next at c.loop-k.invariant.3),
    )

pub returns : goal.returns
returns c =
    let rest = hex_bytes-rest (chunks_exact_rest c.loop-k.k-iterator.iter) (omega (arith, c.in-None.ensures.steps.0.1.0)) in
    rw rest at c.loop-k.invariant.3
