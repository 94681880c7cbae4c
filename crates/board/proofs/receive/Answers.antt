-- `board::receive` meets its contract: refused by the first of 2 to 5 that applies with all untouched, else handled.
use Rattle.std.proofs.Common.{◌≡◌, refl, sym, ap, ◌∙◌, List, ℕ, ◌≤◌, arith, length, rules}
use borrow.Author.Tests.{eqb-false}
use Rattle.rules.specs.Numbers.{made, refusal}
use Rattle.laws.proofs.StateLaws.{refusal_unrefused, unrefused_profile}
use Rattle.laws.proofs.BoardLaws.{received-refused}
use Rattle.state.specs.declared.State.{State}
use Rattle.state.specs.View.{largest_page, largest_frame, view}
use Rattle.state.specs.Heads.{state_with}
use Rattle.profile.specs.View.{profile_of}
use Rattle.refusal.specs.Checks.{check_of}
use Rattle.refusal.proofs.Laws.{check_passed, check_refused}
use Rattle.handling.proofs.HandleLaws.{handled-made}
use Rattle.board.proofs.Laws.{handled_answered}
use Rattle.board.proofs.receive.Goals as goal

pub returns-in-Err : goal.returns-in-Err
returns-in-Err c =
    let p = profile_of c.args.p in
    let s = view c.args.s in
    let asked = c.refuse.ensures c.args.s.upload.waiting c.args.s.last.bytes in
    let same = ap (λ (s : State). check_of (refusal p (view s) (length c.args.flash.now) (length c.args.out.now))) c.head-h.ensures in
    let r = check_refused p s (length c.args.flash.now) (length c.args.out.now) _ (sym (asked ∙ same) ∙ c.in-Err.is) in
    rw (received-refused p s c.args.flash.now c.args.address c.args.frame.now (length c.args.out.now) (eqb-false _ 0 r.not_zero))
    (record { answered = record { called = rw (r.numbered, r.none_made); untouched = λ two. refl }; ignored_kept = λ i. refl })

-- where the frame is handled none of 2 to 5 applies; and the reply fits the output and the last reply's buffer
pub handle-handled-requires : goal.handle-handled-requires
handle-handled-requires c =
    let free = λ (w l : List ℕ). check_passed (profile_of c.args.p) (view (state_with c.head-h.result w l))
    (length c.args.flash.now) (length c.args.out.now) (sym (c.refuse.ensures w l) ∙ c.in_default.is) in record {
      by_index = λ w l. refusal_unrefused _ _ _ _ (free w l);
      waiting_len = search rules;
    }

pub keep_reply-requires : goal.keep_reply-requires
keep_reply-requires c =
    let free = λ (w l : List ℕ). check_passed (profile_of c.args.p) (view (state_with c.head-h.result w l))
    (length c.args.flash.now) (length c.args.out.now) (sym (c.refuse.ensures w l) ∙ c.in_default.is) in
    let w = c.args.s.upload.waiting in
    let unrefused = refusal_unrefused _ _ _ _ (free w c.args.s.last.bytes) in
    let most = handled-made c.args.p c.head-h.result w c.args.flash.now c.args.out.now c.args.address
    c.args.frame.now (free w) _ _ _ _ c.handle-handled.ensures in
    let small = (unrefused_profile unrefused).longest_most in
    let long : length c.args.s.last.bytes ≡ largest_frame = search rules in
    (omega (arith, most, unrefused.buffer_holds, c.reply_length.ensures), omega (arith, most, small, long, c.reply_length.ensures))

pub returns : goal.returns
returns c =
    let free = λ (w l : List ℕ). check_passed (profile_of c.args.p) (view (state_with c.head-h.result w l))
    (length c.args.flash.now) (length c.args.out.now) (sym (c.refuse.ensures w l) ∙ c.in_default.is) in
    let told = handled_answered c.args.p c.head-h.result c.args.s.upload.waiting c.args.s.last.bytes c.args.flash.now c.args.out.now
    c.args.address c.args.frame.now (free c.args.s.upload.waiting) _ _ _ _ c.handle-handled.ensures c.args.s c.head-h.ensures in
    rw (c.joined.ensures, c.keep_reply.ensures, c.reply_length.ensures) told
