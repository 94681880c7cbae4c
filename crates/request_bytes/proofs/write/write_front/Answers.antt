-- `request_bytes::write::write_front` meets its contract: the command is set behind the header. By `laid_snoc`.
use Rattle.std.proofs.Common.{sym, ◌∙◌, arith, length-append}
use Rattle.rules.specs.Frames.{header}
use Rattle.laws.proofs.LaidLaws.{laid_snoc}
use Rattle.laws.proofs.SizeLaws.{length-header}
use Rattle.request_bytes.proofs.write.write_front.Goals as goal

pub returns : goal.returns
returns c =
    let long = length-header c.args.bus c.args.destination in
    record {
      length_is = simp length-append (omega (arith, long, c.write_header-n.ensures.0));
      output_is =
          rw c.write_header-n.ensures.1
          (laid_snoc (header c.args.bus c.args.destination) c.args.out.now c.write_header-n.result _ (long ∙ sym c.write_header-n.ensures.0)
          (omega (arith, c.write_header-n.ensures.0, c.requires.2)));
    }
