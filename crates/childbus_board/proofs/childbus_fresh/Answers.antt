-- `childbus_fresh` meets its contract: the fresh head, written over zeros, leaves them.
use Rattle.std.proofs.Common.{ap, ◌∙◌, [], le-leb, rules}
use borrow.Author.Tests.{lt-leb}
use Rattle.rules.specs.State as rules
use Rattle.state.proofs.Laws.{fresh-head}
use Rattle.state_bytes.specs.StateBytes.{state_size, head_written}
use Rattle.childbus_board.specs.BoardBytes.{fresh_left}
use Rattle.childbus_board.proofs.KeptLaws.{fresh-written}
use Rattle.childbus_board.proofs.childbus_fresh.Goals as goal

pub returns-then-state-lt-STATE_BYTES : goal.returns-then-state-lt-STATE_BYTES
unfolding fresh_left
returns-then-state-lt-STATE_BYTES c = rw (c.board_number.ensures, lt-leb state_size _ c.if-state-lt-STATE_BYTES.true)

pub returns : goal.returns
unfolding fresh_left
returns c =
    let head = fresh-head c.head.result _ _ (c.head.ensures ∙ c.fresh.ensures.all) [] [] in
    let written = c.head_to.ensures [] [] ∙ ap (λ (s : rules.State). head_written s c.clear.new.b) head in
    rw (le-leb state_size _ c.if-state-lt-STATE_BYTES.false, written, c.clear.ensures, fresh-written c.args.state.now)
