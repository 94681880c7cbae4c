-- `childbus_read` meets its contract, by what `last_reply::hand_out` promises.
use Rattle.std.proofs.Common.{refl, arith, length, take, drop, length-take, length-drop}
use Rattle.childbus_board.proofs.BoardLaws.{passed_long, read_refused-left, read_fits, read_left_lem}
use Rattle.childbus_board.proofs.childbus_read.Goals as goal

pub returns-in-Err : goal.returns-in-Err
returns-in-Err c =
    rw c.board_number.ensures
    (read_refused-left c.args.profile.now c.args.state.now c.args.address c.args.flash.now c.args.out.now
    c.profile_from-built.ensures c.head_from-held.ensures refl
    c.refuse.ensures _ c.in-Err.is)

pub slice_bounds-hand_out-end : goal.slice_bounds-hand_out-end
slice_bounds-hand_out-end c =
    passed_long c.args.profile.now c.args.state.now c.args.address c.args.flash.now c.args.out.now
    c.profile_from-built.ensures c.head_from-held.ensures c.clip-to.ensures
    c.refuse.ensures c.in_default.is

pub hand_out-outcome-requires : goal.hand_out-outcome-requires
hand_out-outcome-requires c =
    let long = passed_long c.args.profile.now c.args.state.now c.args.address c.args.flash.now c.args.out.now
    c.profile_from-built.ensures c.head_from-held.ensures c.clip-to.ensures
    c.refuse.ensures c.in_default.is in
    let fits = read_fits c.args.profile.now c.args.state.now c.args.address c.args.flash.now c.args.out.now
    c.profile_from-built.ensures c.head_from-held.ensures c.clip-to.ensures
    c.refuse.ensures c.in_default.is in
    (simp (length-take, length-drop) (omega (arith, fits.0, long)), fits.1)

pub returns : goal.returns
returns c =
    rw (c.board_number-2.ensures, c.reply_length.ensures)
    (read_left_lem c.args.profile.now c.args.state.now c.args.address c.args.flash.now c.args.out.now
    c.profile_from-built.ensures c.head_from-held.ensures c.clip-to.ensures
    c.refuse.ensures c.in_default.is
    c.hand_out-outcome.result _ c.hand_out-outcome.ensures)
