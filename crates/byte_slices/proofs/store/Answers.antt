-- `byte_slices::store` meets its contract. Invariant: the first i bytes are laid over d, which is `paste` of the kit. By `paste-suc`.
use Rattle.std.proofs.Common.{◌≡◌, ◌∙◌, arith, add-one, length}
use lib.Seq.{paste-zero, paste-suc, take-length}
use Rattle.rules.specs.Bytes.{overlay}
use Rattle.byte_slices.proofs.store.Goals as goal

pub loop-i-init : goal.loop-i-init
loop-i-init c = paste-zero _ c.args.at c.args.bytes.now

pub loop-i-preserved : goal.loop-i-preserved
loop-i-preserved c =
    rw (c.loop-i.invariant, add-one) (paste-suc _ c.args.at c.args.bytes.now c.loop-i.i 0 (omega arith) (omega arith))

pub returns : goal.returns
unfolding overlay
returns c =
    let all : c.loop-i.i ≡ length c.args.bytes.now = omega arith in
    c.loop-i.invariant ∙ rw (all, take-length)
