-- `readout::read` meets its contract: refused by the first of 2 to 5 that applies with all untouched, else the last reply.
use Rattle.std.proofs.Common.{List, ℕ, ◌≡◌, refl, sym, ap, subst, ◌∙◌, arith, length, rules}
use Rattle.std.specs.Prelude.{Result}
use Rattle.rules.specs.Numbers.{refusal}
use Rattle.rules.specs.Board.{read_out}
use Rattle.state.specs.declared.State.{State}
use Rattle.state.specs.declared.Head.{Head}
use Rattle.state.specs.View.{largest_frame, view}
use Rattle.state.specs.Heads.{state_with}
use Rattle.profile.specs.declared.Profile.{Profile}
use Rattle.rules.specs.declared.kinds.Outcome.{Outcome}
use Rattle.profile.specs.View.{profile_of}
use Rattle.refusal.specs.Checks.{check_of}
use Rattle.refusal.proofs.Laws.{check_passed, check_refused}
use Rattle.answer.specs.Answered.{call_effect, expected_effect}
use Rattle.last_reply.specs.HandedOut.{handed_out}
use Rattle.last_reply.proofs.Laws.{read_out_handed, last_fits}
use Rattle.readout.proofs.read.Goals as goal

-- the check of a state's head is that of the state
checked : (p : Profile) (s : State) (h : Head) (n m : ℕ) {r : Result (Unit {0}) Outcome}
    → ((w l : List ℕ) → r ≡ check_of (refusal (profile_of p) (view (state_with h w l)) n m))
    → state_with h s.upload.waiting s.last.bytes ≡ s → r ≡ check_of (refusal (profile_of p) (view s) n m)
checked p s h n m told same =
    told s.upload.waiting s.last.bytes ∙ ap (λ (x : State). check_of (refusal (profile_of p) (view x) n m)) same

pub returns-in-Err : goal.returns-in-Err
unfolding read_out
returns-in-Err c =
    let r =
    check_refused (profile_of c.args.p) (view c.args.s) (length c.args.flash.now) (length c.args.out.now) _
    (sym (checked c.args.p c.args.s _ (length c.args.flash.now) (length c.args.out.now) c.refuse.ensures c.head-h.ensures) ∙ c.in-Err.is) in
    rw r.not_zero (record { called = rw (r.numbered, r.none_made); state_is = refl })

pub hand_out-requires : goal.hand_out-requires
hand_out-requires c =
    let p = profile_of c.args.p in
    let n = length c.args.flash.now in
    let m = length c.args.out.now in
    let free = check_passed p (view c.args.s) n m (sym (checked c.args.p c.args.s _ (length c.args.flash.now) (length c.args.out.now) c.refuse.ensures c.head-h.ensures) ∙ c.in_default.is) in
    let fits = last_fits c.args.p c.head-h.result c.args.s.upload.waiting c.args.s.last.bytes n m
    (subst (λ (x : State). refusal p (view x) n m ≡ 0) (sym c.head-h.ensures) free) in
    let long : length c.args.s.last.bytes ≡ largest_frame = search rules in
    (omega (arith, fits.0, long), fits.1)

pub returns : goal.returns
returns c =
    let p = profile_of c.args.p in
    let free = check_passed p (view c.args.s) (length c.args.flash.now) (length c.args.out.now) (sym (checked c.args.p c.args.s _ (length c.args.flash.now) (length c.args.out.now) c.refuse.ensures c.head-h.ensures) ∙ c.in_default.is) in
    rw (read_out_handed p (view c.args.s) c.args.address c.args.flash.now (length c.args.out.now) free)
    (record {
      called = subst
          (λ (x : State). call_effect (record { outcome = c.hand_out.result; state = x }) c.args.flash.now c.hand_out.new.out
          ≡ expected_effect (handed_out p.bus (view x) c.args.address c.args.flash.now) c.args.out.now)
          c.head-h.ensures
          (c.hand_out.ensures c.args.s.upload.waiting c.args.flash.now);
      state_is = refl;
    })
