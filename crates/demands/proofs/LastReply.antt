-- The last reply that is known is the one that the state keeps: by the verdict on a frame, and by a command's response.
use mathlib.Core.Path.{◌≡◌, refl, sym}
use mathlib.Core.Bool.{true, false, not, and-false}
use mathlib.Core.List.{List, []}
use Prim.Native.Nat.{ℕ, ◌≤◌}
use native.Mathlib.Omega.{arith}
use lib.Dec.{eqb}
use lib.ListN.{length}
use borrow.Author.Tests.{eqb-true, eqb-false, ne_eqb}
use Rattle.rules.specs.declared.kinds.Bus.{Bus}
use Rattle.rules.specs.declared.kinds.Bus.TheVariants.{I2c, Rs485}
use Rattle.rules.specs.declared.kinds.Reason.{Reason}
use Rattle.rules.specs.declared.kinds.Verdict.{Verdict}
use Rattle.rules.specs.declared.kinds.Verdict.TheVariants.{Ignored}
use Rattle.rules.specs.Profile.{Profile}
use Rattle.rules.specs.State.{State}
use Rattle.rules.specs.Numbers.{ignored_number, refusal}
use Rattle.rules.specs.Frames.{reply, destination, reset_frame, reset_address_frame, is_general, framing, verdict, command_of, arguments_of}
use Rattle.rules.specs.Responses.{Response, Reply, NoReply, Acted, replying, invalid_transfer, invalid_crc}
use Rattle.rules.specs.Commands.{executed}
use Rattle.rules.specs.Board.{Called, with_reply, finished_call, handled, received}
use Rattle.laws.proofs.TestLaws.{by_test}
use Rattle.laws.proofs.VerdictLaws.{framing_cases, verdict_cases}
use Rattle.laws.proofs.BoardLaws.{ignored-number, received-handled, received-refused, refusal_least}
use Rattle.demands.specs.Past.{past_of, well_framed, executes, kept_reply, last_after}

-- what is known after a call is what the call leaves
abbrev LastIs : Profile → State → ℕ → List ℕ → Called → Type 0
LastIs p s a f c = last_after p (past_of s) s.last a f c.number c.reply ≡ c.state.last

with_reply_last : (bus : Bus) (s : State) (r : List ℕ) → kept_reply bus r ≡ (with_reply bus s r).last
with_reply_last I2c s r = refl
with_reply_last Rs485 s r = refl

with_reply_none : (bus : Bus) (s : State) → (with_reply bus s []).last ≡ []
with_reply_none I2c s = refl
with_reply_none Rs485 s = refl

module _ (p : Profile) (s : State) (a : ℕ) (f d : List ℕ) where
  -- a reply is the last one
  reply_last : (act : Acted) (status : ℕ) (results : List ℕ) → act.response ≡ Reply status results
      → LastIs p s a f (finished_call p.bus (destination p.bus a f) act)
  unfolding last_after
  reply_last act status results e =
      rw e (with_reply_last p.bus act.state (reply p.bus (destination p.bus a f) status results))

  -- without a reply there is none, where the frame was executed
  none_last : (act : Acted) → act.response ≡ NoReply → executes p (past_of s) a f ≡ true
      → LastIs p s a f (finished_call p.bus (destination p.bus a f) act)
  unfolding last_after
  none_last act e done = rw (e, done) (sym (with_reply_none p.bus act.state))

  acted_last : (act : Acted) → executes p (past_of s) a f ≡ true → LastIs p s a f (finished_call p.bus (destination p.bus a f) act)
  acted_last act done = go act.response refl
    where
      go : (r : Response) → act.response ≡ r → LastIs p s a f (finished_call p.bus (destination p.bus a f) act)
      go (Reply status results) e = reply_last act status results e
      go NoReply e = none_last act e done

  refused_last : (n : ℕ) → 2 ≤ n → last_after p (past_of s) s.last a f n [] ≡ s.last
  unfolding last_after
  refused_last n h = rw (ne_eqb n 0 (λ e. omega arith), ne_eqb n 1 (λ e. omega arith))

  -- an ignored frame is not executed
  framing_last : (reason : Reason) → is_general p.bus a f (reset_frame p.bus) ≡ false
      → is_general p.bus a f (reset_address_frame p.bus) ≡ false
      → framing p.bus p.longest s.address a f ≡ Ignored reason
      → last_after p (past_of s) s.last a f (ignored_number reason) [] ≡ s.last
  unfolding last_after well_framed
  framing_last reason no_reset no_address is =
      ignored-number (λ (n : ℕ). last_after p (past_of s) s.last a f n [] ≡ s.last) reason
      (rw (no_reset, no_address, is, and-false (not s.running))) refused_last

  handled_last : LastIs p s a f (handled p s a f d (verdict p.bus p.longest s.running s.address a f))
  unfolding handled last_after well_framed
  handled_last =
      verdict_cases p.bus p.longest s.running s.address a f (λ (v : Verdict). LastIs p s a f (handled p s a f d v))
      (record {
        reset = λ e. rw e;
        run = λ no_reset running. rw (no_reset, running);
        reset_address = λ no_reset stopped e. rw (no_reset, stopped, e);
        framed = λ no_reset stopped no_address.
            framing_cases p.bus p.longest s.address a f
            (λ (v : Verdict). framing p.bus p.longest s.address a f ≡ v → LastIs p s a f (handled p s a f d v))
            (record {
              silent = λ reason is. framing_last reason no_reset no_address is;
              bad_transfer = λ b is. reply_last (replying s d invalid_transfer []) invalid_transfer [] refl;
              bad_sum = λ b is. reply_last (replying s d invalid_crc []) invalid_crc [] refl;
              command = λ framed is.
                  acted_last (executed p s (command_of p.bus f) (arguments_of p.bus f) d)
                  (rw (no_reset, stopped, no_address, is));
            })
            refl;
      })

  pub received_last : (n : ℕ) → LastIs p s a f (received p s a f d n)
  received_last n =
      by_test (eqb (refusal p s (length d) n) 0) (λ e. rw (received-handled p s d a f n (eqb-true _ _ e)) handled_last)
      (λ e.
      rw (received-refused p s d a f n (eqb-false _ _ e))
      (refused_last (refusal p s (length d) n) (refusal_least p s (length d) n e)))
