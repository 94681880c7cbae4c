-- `childbus_board::childbus_receive_tally` meets its contract: what `childbus_receive` left, and the tally counted by its number.
use Rattle.std.proofs.Common.{ap}
use Rattle.childbus_board.specs.BoardBytes.{ReceivedLeft}
use Rattle.childbus_board.specs.TallyCall.{counted_by}
use Rattle.childbus_board.proofs.childbus_receive_tally.Goals as goal

pub returns : goal.returns
returns c = rw c.count.ensures (ap (λ (l : ReceivedLeft). counted_by l c.args.tally.now) c.childbus_receive-number.ensures)
