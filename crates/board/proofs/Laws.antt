-- What `handle` promises of a head and the lent buffers is what `receive` promises of the state.
use mathlib.Core.Path.{◌≡◌, subst}
use mathlib.Core.Bool.{true}
use mathlib.Core.List.{List}
use Prim.Native.Nat.{ℕ}
use lib.ListN.{length, take}
use Rattle.rules.specs.Numbers.{made, refusal}
use Rattle.rules.specs.Frames.{verdict, ignored}
use Rattle.rules.specs.Board.{handled, received}
use Rattle.state.specs.declared.State.{State}
use Rattle.state.specs.declared.Head.{Head}
use Rattle.state.specs.View.{view}
use Rattle.state.specs.Heads.{state_with, kept_reply}
use Rattle.profile.specs.declared.Profile.{Profile}
use Rattle.profile.specs.View.{profile_of}
use Rattle.answer.specs.declared.Answer.{Answer}
use Rattle.answer.specs.Answered.{FrameAnswered}
use Rattle.answer.specs.HeadAnswered.{Handled}
use Rattle.answer.proofs.AnsweredLaws.{kept_reply_none}
use Rattle.handling.proofs.HandleLaws.{handled-received, handled-ignored, ignored-made}

module _ (p : Profile) (h : Head) (w l flash out : List ℕ) (a : ℕ) (f : List ℕ)
    (none : (l : List ℕ) → refusal (profile_of p) (view (state_with h w l)) (length flash) (length out) ≡ 0)
    (r : Answer Head) (w' d out' : List ℕ)
    (told : Handled p.bus h r w w' d out' out
    (λ l. handled (profile_of p) (view (state_with h w l)) a f flash (verdict p.bus p.longest h.running h.address a f))
    (verdict p.bus p.longest h.running h.address a f)) where
  -- the state after the call
  left : State
  left = state_with r.state w' (kept_reply p.bus (take (made r.outcome) out') l)

  -- an ignored frame leaves the very state
  kept : ignored (verdict p.bus p.longest h.running h.address a f) ≡ true → left ≡ state_with h w l
  unfolding left
  kept i =
      rw (told.head_kept i, told.buffer_kept i, ignored-made p h w flash out a f none r w' d out' told i, kept_reply_none p.bus l)

  pub handled_answered : (s : State) → state_with h w l ≡ s
      → FrameAnswered s
      (record { outcome = r.outcome; state = state_with r.state w' (kept_reply p.bus (take (made r.outcome) out') l) })
      d out' out
      (received (profile_of p) (view s) a f flash (length out)) (verdict p.bus p.longest s.running s.address a f)
  unfolding left
  handled_answered s e =
      subst
      (λ (s : State). FrameAnswered s
      (record { outcome = r.outcome; state = state_with r.state w' (kept_reply p.bus (take (made r.outcome) out') l) })
      d out' out
      (received (profile_of p) (view s) a f flash (length out)) (verdict p.bus p.longest s.running s.address a f))
      e
      (record {
        answered = record {
          called = handled-received p h w flash out a f none r w' d out' told l;
          untouched = λ two. kept (handled-ignored p h w flash out a f none r w' d out' told two);
        };
        ignored_kept = kept;
      })
