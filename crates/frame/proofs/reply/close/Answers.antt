-- `frame::reply::close` meets its contract: header, status and count are laid over the buffer and sealed with the results. By `closing`.
use Rattle.frame.proofs.ReplyLaws.{closing}
use Rattle.frame.proofs.reply.close.Goals as goal

pub returns : goal.returns
returns c =
    closing c.args.bus c.args.to c.args.status c.args.count _ c.args.out.now _ _ _ _
    c.requires.0 c.requires.1 c.write_header-head.ensures.0 c.write_header-head.ensures.1 c.store.ensures
    c.seal.ensures
