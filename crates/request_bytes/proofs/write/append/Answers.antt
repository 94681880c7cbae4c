-- `request_bytes::write::append` meets its contract: the part of the output behind the first n is stored to, by `makes_part`.
use Rattle.request_bytes.proofs.WriteLaws.{makes_part}
use Rattle.request_bytes.proofs.write.append.Goals as goal

pub returns : goal.returns
returns c = makes_part c.args.n c.args.out.now c.args.more.now c.requires c.store.ensures
