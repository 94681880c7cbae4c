-- `upload::take` meets its contract: the pages by `commit_pages`, the bytes behind them by `taken-rest`.
use Rattle.std.proofs.Common.{arith, length}
use Rattle.commit.proofs.Laws.{taken_formed}
use Rattle.upload.proofs.Turns.{length_rest, rest_fits, taken-rest, behind_rest}
use Rattle.upload.proofs.take.Goals as goal

pub store-requires : goal.store-requires
store-requires c =
    let taken = c.commit_pages-paged.ensures in
    let long = length_rest c.requires.ready c.requires.bytes_bound c.requires.waiting_len taken in
    let room = rest_fits c.requires.ready c.requires.bytes_bound c.requires.waiting_len taken in
    rw long (omega (arith, room.0))

pub overflow_add-result : goal.overflow_add-result
overflow_add-result c =
    let taken = c.commit_pages-paged.ensures in
    let long = length_rest c.requires.ready c.requires.bytes_bound c.requires.waiting_len taken in
    let room = rest_fits c.requires.ready c.requires.bytes_bound c.requires.waiting_len taken in
    omega (arith, long, room.1)

pub overflow_add-result-2 : goal.overflow_add-result-2
overflow_add-result-2 c =
    let taken = c.commit_pages-paged.ensures in
    let long = length_rest c.requires.ready c.requires.bytes_bound c.requires.waiting_len taken in
    let room = rest_fits c.requires.ready c.requires.bytes_bound c.requires.waiting_len taken in
    omega (arith, long, room.0)

pub returns : goal.returns
returns c =
    let taken = c.commit_pages-paged.ensures in
    let stored = c.store.ensures in
    let all = taken-rest c.requires.ready c.requires.bytes_bound c.requires.waiting_len taken stored in record {
      flash_after = all;
      formed = taken_formed c.args.flash.now c.requires.ready _ c.args.bytes.now c.requires.bytes_bound all;
      waiting_unchanged = behind_rest c.requires.ready c.requires.bytes_bound c.requires.waiting_len taken stored;
    }
