-- `ledger::bound_reached` meets its contract: computed.
use Rattle.std.proofs.Common.{refl}
use Rattle.rules.specs.Bytes.{same, overlay}
use Rattle.rules.specs.Profile.{in_range}
use Rattle.rules.specs.State.{upload_formed, well_formed}
use Rattle.rules.specs.Numbers.{refusal}
use Rattle.rules.specs.CheckSums.{bit, byte, run, sum, sealed, sum_right}
use Rattle.rules.specs.Frames.{request, reply, reset_frame, reset_address_frame, addressed, framing, verdict}
use Rattle.rules.specs.Commit.{committed, taken, taken_all, finalized}
use Rattle.rules.specs.Commands.{tabled, written, finished, performed, executed}
use Rattle.rules.specs.Board.{handled, received}
use Rattle.ledger.specs.Ledger.{commits, joins, joins_all, writes, finalizes, entered}
use Rattle.ledger.specs.Calls.{trace}
use Rattle.ledger.specs.Reached.{BoundReached}
use Rattle.ledger.proofs.bound_reached.Goals as goal

reached : BoundReached
unfolding same overlay in_range upload_formed well_formed refusal
    bit byte run sum sealed sum_right request reply reset_frame reset_address_frame addressed framing verdict
    committed taken taken_all finalized tabled written finished performed executed handled received
    commits joins joins_all writes finalizes entered trace
reached = record {
  page_64 = record { counts_are = refl; finals_are = refl; bounds_are = refl };
  page_128 = record { counts_are = refl; finals_are = refl; bounds_are = refl };
}

pub returns : goal.returns
returns c = reached
