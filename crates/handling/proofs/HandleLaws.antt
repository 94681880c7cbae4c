-- A frame that is a command is long enough; and what `handle` promises, as its callers use it.
use mathlib.Core.Path.{◌≡◌, refl, sym, ap, ◌∙◌}
use mathlib.Core.Bool.{Bool, true, false}
use mathlib.Core.List.{List, []}
use Prim.Native.Nat.{ℕ, ◌+◌, ◌≤◌}
use native.Mathlib.Omega.{arith}
use lib.ListN.{length, take, drop, length-append}
use lib.Seq.{length-take-le}
use Rattle.rules.specs.declared.kinds.Bus.{Bus}
use Rattle.rules.specs.declared.kinds.Bus.TheVariants.{I2c, Rs485}
use Rattle.rules.specs.declared.kinds.Address.{Address}
use Rattle.rules.specs.declared.kinds.Verdict.{Verdict}
use Rattle.rules.specs.declared.kinds.Verdict.TheVariants.{Reset, ResetAddress, Ignored, BadTransfer, BadSum, Command}
use Rattle.rules.specs.Profile as paper
use Rattle.rules.specs.State as rules
use Rattle.rules.specs.Numbers.{number, made, refusal}
use Rattle.rules.specs.Frames.{shortest_request, destination, command_of, arguments_of, verdict, is_command, ignored}
use Rattle.rules.specs.Responses.{Response, Reply, NoReply, Acted, replying, invalid_transfer, invalid_crc}
use Rattle.rules.specs.Commands.{executed}
use Rattle.rules.specs.Board.{Called, replied, finished_call, handled, received}
use Rattle.laws.proofs.TestLaws.{by_test}
use Rattle.laws.proofs.LaidLaws.{drop-laid}
use Rattle.laws.proofs.VerdictLaws.{verdict_framed}
use Rattle.laws.proofs.StateLaws.{length-used, refusal_unrefused}
use Rattle.laws.proofs.BoardLaws.{received_formed_call, received-handled, ignored_untouched, numbered-ignored}
use Rattle.state.specs.declared.Head.{Head}
use Rattle.state.specs.View.{view}
use Rattle.state.specs.Heads.{state_with, kept_reply}
use Rattle.profile.specs.declared.Profile.{Profile}
use Rattle.profile.specs.View.{profile_of}
use Rattle.answer.specs.declared.Answer.{Answer}
use Rattle.answer.specs.Answered.{CallEffect, expected_effect}
use Rattle.answer.specs.HeadAnswered.{head_effect, Handled}

-- a frame whose verdict is a command is long enough to be one
pub command_long : (bus : Bus) (M : ℕ) (running : Bool) (own : Address) (a : ℕ) (f : List ℕ) → verdict bus M running own a f ≡ Command
    → shortest_request bus ≤ length f
command_long bus M running own a f e = (verdict_framed bus M running own a f (ap is_command e)).length_least

-- on I²C the reply to a frame that is not ignored is the last reply, or there is none
module _ (p : paper.Profile) (s : rules.State) (a : ℕ) (f d : List ℕ) (i2c : p.bus ≡ I2c) where
  finished_last : (to : ℕ) (act : Acted) → (finished_call p.bus to act).state.last ≡ (finished_call p.bus to act).reply
  finished_last to act = rw i2c (go act.response)
    where
      go : (r : Response) → (replied I2c to r act.state act.flash).state.last ≡ (replied I2c to r act.state act.flash).reply
      go (Reply status results) = refl
      go NoReply = refl

  handled_last : (v : Verdict) → ignored v ≡ false → (handled p s a f d v).state.last ≡ (handled p s a f d v).reply
  unfolding handled
  handled_last Reset e = refl
  handled_last ResetAddress e = refl
  handled_last (Ignored reason) e = cc
  handled_last BadTransfer e = finished_last (destination p.bus a f) (replying s d invalid_transfer [])
  handled_last BadSum e = finished_last (destination p.bus a f) (replying s d invalid_crc [])
  handled_last Command e =
      finished_last (destination p.bus a f) (executed p s (command_of p.bus f) (arguments_of p.bus f) d)

-- the verdict on a frame, and what the rules do with it
abbrev verdict_of : Profile → Head → ℕ → List ℕ → Verdict
verdict_of p h a f = verdict p.bus p.longest h.running h.address a f

module _ (p : Profile) (h : Head) (w flash out : List ℕ) (a : ℕ) (f : List ℕ)
    (none : (l : List ℕ) → refusal (profile_of p) (view (state_with h w l)) (length flash) (length out) ≡ 0)
    (r : Answer Head) (w' d out' : List ℕ)
    (told : Handled p.bus h r w w' d out' out
    (λ l. handled (profile_of p) (view (state_with h w l)) a f flash (verdict_of p h a f)) (verdict_of p h a f)) where
  -- it is the rules' call
  pub handled-received : (l : List ℕ)
      → head_effect p.bus r w' l d out'
      ≡ expected_effect (received (profile_of p) (view (state_with h w l)) a f flash (length out)) out
  handled-received l =
      told.answered.called l
      ∙ sym (ap (λ (c : Called). expected_effect c out)
      (received-handled (profile_of p) (view (state_with h w l)) flash a f (length out) (none l)))

  -- its reply fits M
  pub handled-made : made r.outcome ≤ p.longest
  handled-made =
      let s = view (state_with h w []) in
      let formed = (refusal_unrefused (profile_of p) s (length flash) (length out) (none [])).well_formed_holds in
      let made_is = ap (λ (x : CallEffect). x.made) (handled-received []) in
      rw made_is (received_formed_call (profile_of p) s flash a f (length out) formed).reply_most

  -- a number of 2 or above is that of an ignored frame, which makes nothing
  pub handled-ignored : 2 ≤ number r.outcome → ignored (verdict_of p h a f) ≡ true
  handled-ignored two =
      let same = ap (λ (x : CallEffect). x.number) (told.answered.called []) in
      numbered-ignored (profile_of p) (view (state_with h w [])) a f flash (verdict_of p h a f) (rw same at two)

  pub ignored-made : ignored (verdict_of p h a f) ≡ true → made r.outcome ≡ 0
  ignored-made e =
      ap (λ (x : CallEffect). x.made) (told.answered.called [])
      ∙ ap (λ (c : Called). length c.reply)
      (ignored_untouched (profile_of p) (view (state_with h w [])) a f flash (verdict_of p h a f) e)

  -- bytes behind the last reply stay
  pub handled_behind : (l : List ℕ)
      → drop r.state.len (kept_reply p.bus (take (made r.outcome) out') l) ≡ drop r.state.len l
  handled_behind l = go p.bus refl
    where
      -- the head has the reply's length
      kept_made : p.bus ≡ I2c → ignored (verdict_of p h a f) ≡ false → r.state.len ≡ made r.outcome
      kept_made i2c e =
          sym (length-used r.state.len (kept_reply p.bus (take (made r.outcome) out') []))
          ∙ ap (λ (x : CallEffect). length x.state.last) (told.answered.called [])
          ∙ ap length (handled_last (profile_of p) (view (state_with h w [])) a f flash i2c (verdict_of p h a f) e)
          ∙ sym (ap (λ (x : CallEffect). x.made) (told.answered.called []))

      -- the reply is as long as was made
      long : length (take (made r.outcome) out') ≡ made r.outcome
      long =
          let made_is = ap (λ (x : CallEffect). x.made) (handled-received []) in
          let out_is = ap (λ (x : CallEffect). x.out) (handled-received []) in
          let reply = (received (profile_of p) (view (state_with h w [])) a f flash (length out)).reply in
          length-take-le _ _ (rw (made_is, out_is) (omega (arith, length-append reply (drop (length reply) out))))

      go : (bus : Bus) → p.bus ≡ bus → drop r.state.len (kept_reply bus (take (made r.outcome) out') l) ≡ drop r.state.len l
      go Rs485 e = refl
      go I2c e =
          by_test (ignored (verdict_of p h a f))
          (λ ignoring. rw (ignored-made ignoring))
          (λ heard.
          let xs = take (made r.outcome) out' in
          let place : r.state.len ≡ length xs + 0 = omega (arith, kept_made e heard, long) in
          rw place (drop-laid xs l 0))
