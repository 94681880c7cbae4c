-- One name for all that a proof by computation opens: the rules, the ledger and the past.
use Rattle.rules.specs.Bytes.{same, overlay}
use Rattle.rules.specs.Profile.{in_range}
use Rattle.rules.specs.State.{upload_formed, well_formed}
use Rattle.rules.specs.Numbers.{refusal}
use Rattle.rules.specs.CheckSums.{bit, byte, run, sum, sealed, sum_right}
use Rattle.rules.specs.Frames.{request, reply, reset_frame, reset_address_frame, addressed, framing, verdict}
use Rattle.rules.specs.Commit.{committed, taken, taken_all, finalized}
use Rattle.rules.specs.Commands.{tabled, set_address, written, finished, shown, performed, executed}
use Rattle.rules.specs.Board.{handled, received, read_out}
use Rattle.ledger.specs.Ledger.{commits, joins, joins_all, writes, finalizes, entered}
use Rattle.ledger.specs.Calls.{trace}
use Rattle.ledger.specs.Claim.{pieces}
use Rattle.demands.specs.Past.{well_framed, after_frame, last_after}
use Rattle.address_claims.specs.Addresses.{kept_after}

unfoldable pub computing : Unit {0}
unfolding same overlay in_range upload_formed well_formed refusal
    bit byte run sum sealed sum_right request reply reset_frame reset_address_frame addressed framing verdict
    committed taken taken_all finalized tabled set_address written finished shown performed executed handled received read_out
    commits joins joins_all writes finalizes entered trace pieces well_framed after_frame last_after kept_after
computing = tt
