-- `childbus_receive` meets its contract, by what `handling::handle` promises. The state buffer is written only where the call is not
-- refused.
use Rattle.std.proofs.Common.{◌≡◌, refl, ◌≤◌, arith, length, length-take, length-drop, rules}
use Rattle.laws.proofs.StateLaws.{refusal_unrefused}
use Rattle.rules.specs.Numbers.{made}
use Rattle.state.specs.View.{largest_page, largest_frame}
use Rattle.state_bytes.specs.StateBytes.{state_size}
use Rattle.childbus_board.proofs.BoardLaws.{passed, passed_long, received-refused-left}
use Rattle.childbus_board.proofs.BoardLaws.{made_most, received-ignored-left, received_kept_left}
use Rattle.childbus_board.proofs.childbus_receive.Goals as goal

pub returns-in-Err : goal.returns-in-Err
returns-in-Err c =
    rw c.board_number.ensures
    (received-refused-left c.args.profile.now c.args.state.now c.args.address c.args.flash.now c.args.out.now
    c.profile_from-p.ensures c.head_from-h.ensures refl
    c.refuse.ensures c.args.frame.now _ c.in-Err.is)

pub slice_bounds-handle-end : goal.slice_bounds-handle-end
slice_bounds-handle-end c =
    let long = passed_long c.args.profile.now c.args.state.now c.args.address c.args.flash.now c.args.out.now
    c.profile_from-p.ensures c.head_from-h.ensures c.clip.ensures
    c.refuse.ensures c.in_default.is in
    omega (arith, long)

pub handle-handled-requires : goal.handle-handled-requires
handle-handled-requires c =
    let long = passed_long c.args.profile.now c.args.state.now c.args.address c.args.flash.now c.args.out.now
    c.profile_from-p.ensures c.head_from-h.ensures c.clip.ensures
    c.refuse.ensures c.in_default.is in record {
      by_index = λ w l. refusal_unrefused _ _ _ _
          (passed c.args.profile.now c.args.state.now c.args.address c.args.flash.now c.args.out.now
          c.profile_from-p.ensures c.head_from-h.ensures c.clip.ensures
          c.refuse.ensures c.in_default.is w l);
      waiting_len = simp (length-take, length-drop) (omega (arith, long));
    }

pub returns-then-number-ge2 : goal.returns-then-number-ge2
returns-then-number-ge2 c =
    rw (c.board_number-number.ensures, c.reply_length-n.ensures)
    (received-ignored-left c.args.profile.now c.args.state.now c.args.address c.args.flash.now c.args.out.now
    c.profile_from-p.ensures c.head_from-h.ensures c.clip.ensures
    c.refuse.ensures c.args.frame.now
    c.in_default.is _ _ _ _ c.handle-handled.ensures (rw c.board_number-number.ensures at c.if-number-ge2.true))

pub write_back-requires : goal.write_back-requires
write_back-requires c =
    let long = passed_long c.args.profile.now c.args.state.now c.args.address c.args.flash.now c.args.out.now
    c.profile_from-p.ensures c.head_from-h.ensures c.clip.ensures
    c.refuse.ensures c.in_default.is in
    let most = made_most c.args.profile.now c.args.state.now c.args.address c.args.flash.now c.args.out.now
    c.profile_from-p.ensures c.head_from-h.ensures c.clip.ensures
    c.refuse.ensures c.args.frame.now
    c.in_default.is _ _ _ _ c.handle-handled.ensures in
    let n = c.reply_length-n.ensures in
    record {
      state_size_in_bounds = omega (arith, long);
      n_in_bounds = (omega (arith, n, most.0), omega (arith, n, most.1));
    }

pub returns : goal.returns
returns c =
    let number = c.board_number-number.ensures in
    let length_is = c.reply_length-n.ensures in
    let lent : length c.handle-handled.new.waiting ≡ largest_page = search rules in
    rw (number, length_is)
    (received_kept_left c.args.profile.now c.args.state.now c.args.address c.args.flash.now c.args.out.now
    c.profile_from-p.ensures c.head_from-h.ensures c.clip.ensures
    c.refuse.ensures c.args.frame.now
    c.in_default.is _ _ _ _ c.handle-handled.ensures lent (rw number at c.if-number-ge2.false)
    (λ w l. rw length_is at (c.write_back.ensures w l)))
