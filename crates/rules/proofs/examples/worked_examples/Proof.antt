-- `rules::examples::worked_examples` meets its contract: antt computes every row.
use mathlib.Core.Path.{◌≡◌, refl}
use mathlib.Core.List.{[]}
use Rattle.rules.specs.Bytes.{same, overlay}
use Rattle.rules.specs.Profile.{in_range}
use Rattle.rules.specs.State.{upload_formed, well_formed}
use Rattle.rules.specs.Numbers.{refusal}
use Rattle.rules.specs.CheckSums.{bit, byte, run, sum, sealed, sum_right}
use Rattle.rules.specs.Frames.{request, reply, reset_frame, reset_address_frame, addressed, framing, verdict}
use Rattle.rules.specs.Commit.{committed, taken, taken_all, finalized}
use Rattle.rules.specs.Commands.{tabled, set_address, written, finished, shown, performed, executed}
use Rattle.rules.specs.Board.{handled, received}
use Rattle.rules.specs.Master.{command_wrong, argument_wrong, request_bytes, encoded, version_rule, running_reset}
use Rattle.rules.specs.Examples.{disagreeing, rows, sent_to, upload_rows, edge_rows, page_rows}
use Rattle.rules.proofs.examples.worked_examples.Statement.{statement}
use Rattle.rules.proofs.examples.worked_examples.Tie as tie

rows_agree : disagreeing rows ≡ []
unfolding same overlay in_range upload_formed well_formed refusal
    bit byte run sum sealed sum_right request reply reset_frame reset_address_frame addressed framing verdict
    committed taken taken_all finalized tabled set_address written finished shown performed executed handled received
    command_wrong argument_wrong request_bytes encoded version_rule running_reset
    disagreeing rows sent_to upload_rows edge_rows page_rows
rows_agree = refl

returns : tie.Need-returns
returns c = rows_agree

pub worked_examples_spec : {M : Type 1} → statement M
worked_examples_spec = tie.close (tie.spec returns)
