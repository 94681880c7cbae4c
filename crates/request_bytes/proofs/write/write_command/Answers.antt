-- `request_bytes::write::write_command` meets its contract: front, arguments and check sum follow each other, by `makes_more` and
-- `makes_sealed`.
use Rattle.std.proofs.Common.{append_assoc, arith, length-append}
use Rattle.rules.specs.Frames.{request}
use Rattle.laws.proofs.SizeLaws.{length-header}
use Rattle.request_bytes.proofs.WriteLaws.{makes_room, makes_more, makes_sealed}
use Rattle.request_bytes.proofs.write.write_command.Goals as goal

pub append-more-requires : goal.append-more-requires
append-more-requires c = makes_room c.write_front-front.ensures _ (simp (length-append, length-header) (omega (arith, c.requires.2)))

pub append-all-requires : goal.append-all-requires
append-all-requires c =
    let made = makes_more c.write_front-front.ensures c.args.first.now c.append-more.ensures in
    makes_room made _ (simp (length-append, length-header) (omega (arith, c.requires.2)))

pub seal-requires : goal.seal-requires
seal-requires c =
    let some = makes_more c.write_front-front.ensures c.args.first.now c.append-more.ensures in
    let made = makes_more some c.args.second.now c.append-all.ensures in
    makes_room made _ (simp (length-append, length-header) (omega (arith, c.requires.2)))

pub returns : goal.returns
unfolding request
returns c =
    let some = makes_more c.write_front-front.ensures c.args.first.now c.append-more.ensures in
    let made = makes_more some c.args.second.now c.append-all.ensures in
    rw (append_assoc, append_assoc) at (makes_sealed made c.seal.ensures)
