-- Laws of the board calls: a well-formed state stays well formed, flash keeps its length, and a reply has at most M bytes. Why: a command
-- keeps its upload well formed (`CommandLaws`), and its reply is the last reply.
use mathlib.Core.Path.{◌≡◌, refl, sym, ap, ◌∙◌}
use mathlib.Core.Bool.{Bool, true, false, cond, not, false≢true}
use mathlib.Core.List.{List, []}
use Prim.Native.Nat.{ℕ, ◌≤◌}
use native.Mathlib.Omega.{arith}
use lib.Dec.{eqb}
use lib.ListN.{length}
use borrow.Author.Tests.{eqb-true, eq-eqb, ne_eqb}
use Rattle.rules.specs.declared.kinds.Bus.{Bus}
use Rattle.rules.specs.declared.kinds.Bus.TheVariants.{I2c, Rs485}
use Rattle.rules.specs.declared.kinds.Reason.{Reason}
use Rattle.rules.specs.declared.kinds.Reason.TheVariants.{Running, Short, Long, WrongSum, Foreign, OtherGeneral}
use Rattle.rules.specs.declared.kinds.Verdict.{Verdict}
use Rattle.rules.specs.declared.kinds.Verdict.TheVariants.{Reset, ResetAddress, Ignored, BadTransfer, BadSum, Command}
use Rattle.rules.specs.Profile.{Profile, in_range}
use Rattle.rules.specs.State.{State, fresh, with_last, well_formed}
use Rattle.rules.specs.Numbers.{ignored_number, refusal, flash_short, buffer_short, Unrefused}
use Rattle.rules.specs.Frames.{reply, addressed, destination, verdict, ignored, command_of, arguments_of}
use Rattle.rules.specs.Commit.{OutsideKept}
use Rattle.rules.specs.Responses.{Response, Reply, NoReply, Acted, invalid_transfer, invalid_crc}
use Rattle.rules.specs.Commands.{executed}
use Rattle.rules.specs.Board.{Called, nothing, with_reply, replied, finished_call, address_reset, handled, refused, received, read_answered}
use Rattle.rules.specs.Board.{read_out}
use Rattle.laws.proofs.StateLaws.{UploadFacts, ReplyFacts, facts_well_formed, well_formed_facts, fresh-well_formed}
use Rattle.laws.proofs.StateLaws.{refusal_unrefused, unrefused_profile, unrefused_state}
use Rattle.laws.proofs.TestLaws.{by_test}
use Rattle.laws.proofs.UploadLaws.{outside_refl}
use Rattle.laws.proofs.CommandLaws.{Fits, FormedResult, length-reply, replying_formed_result, executed_formed_result}

-- what a call leaves: a well-formed state, flash as long as d and with its bytes outside the working flash, a reply of at most M bytes
pub record FormedCall (p : Profile) (d : List ℕ) (c : Called) : Type 0 where
  pub well_formed_holds : well_formed p c.state ≡ true
  pub outside : OutsideKept p d c.flash
  pub reply_most : length c.reply ≤ p.longest

-- nothing to send, or a refusal: the state as it was, or another that is well formed
nothing_formed : (p : Profile) (number : ℕ) (s : State) (d : List ℕ) → well_formed p s ≡ true → FormedCall p d (refused number s d)
nothing_formed p number s d formed = record { well_formed_holds = formed; outside = outside_refl p d; reply_most = omega arith }

-- a reply changes the last reply alone: what does not look at it stays
pub with_reply_kept : {A : Type 0} (get : State → A) → ((s : State) (l : List ℕ) → get (with_last s l) ≡ get s)
    → (bus : Bus) (s : State) (r : List ℕ) → get (with_reply bus s r) ≡ get s
with_reply_kept get kept I2c s r = kept s r
with_reply_kept get kept Rs485 s r = kept s []

pub with_reply-upload : (bus : Bus) (s : State) (r : List ℕ) → (with_reply bus s r).upload ≡ s.upload
with_reply-upload = with_reply_kept (λ (s : State). s.upload) (λ s l. refl)

pub with_reply_running : (bus : Bus) (s : State) (r : List ℕ) → (with_reply bus s r).running ≡ s.running
with_reply_running = with_reply_kept (λ (s : State). s.running) (λ s l. refl)

pub with_reply_address : (bus : Bus) (s : State) (r : List ℕ) → (with_reply bus s r).address ≡ s.address
with_reply_address = with_reply_kept (λ (s : State). s.address) (λ s l. refl)

-- on I²C the reply is kept
pub with_reply_last : (bus : Bus) (s : State) (r : List ℕ) → bus ≡ I2c → (with_reply bus s r).last ≡ r
with_reply_last I2c s r e = refl
with_reply_last Rs485 s r e = cc

with_reply-reply : (bus : Bus) (M : ℕ) (s : State) (r : List ℕ) → length r ≤ M → ReplyFacts bus M (with_reply bus s r).last
with_reply-reply I2c M s r h = record { last_most = h; last_none = λ e. cc }
with_reply-reply Rs485 M s r h = record { last_most = omega arith; last_none = λ e. refl }

with_reply_formed : (p : Profile) (s : State) (r : List ℕ) → UploadFacts p.page p.size s.upload → length r ≤ p.longest
    → well_formed p (with_reply p.bus s r) ≡ true
with_reply_formed p s r formed h =
    facts_well_formed p (with_reply p.bus s r)
    (record { upload = rw (with_reply-upload p.bus s r) formed; reply = with_reply-reply p.bus p.longest s r h })

replied_formed_call : (p : Profile) (d : List ℕ) (a : ℕ) (r : Response) (s : State) (e : List ℕ)
    → UploadFacts p.page p.size s.upload
    → OutsideKept p d e → Fits p r → FormedCall p d (replied p.bus a r s e)
replied_formed_call p d a (Reply status results) s e formed kept fits =
    let most : length (reply p.bus a status results) ≤ p.longest = omega (arith, length-reply p.bus a status results) in
    record { well_formed_holds = with_reply_formed p s (reply p.bus a status results) formed most; outside = kept; reply_most = most }
replied_formed_call p d a NoReply s e formed kept fits =
    record { well_formed_holds = with_reply_formed p s [] formed (omega arith); outside = kept; reply_most = omega arith }

finished_call_formed_call : (p : Profile) (d : List ℕ) (a : ℕ) (act : Acted) → FormedResult p d act
    → FormedCall p d (finished_call p.bus a act)
finished_call_formed_call p d a act formed-result =
    replied_formed_call p d a act.response act.state act.flash formed-result.formed formed-result.outside
    formed-result.fits

address_reset_formed : (p : Profile) (s : State) → UploadFacts p.page p.size s.upload → well_formed p (address_reset s) ≡ true
address_reset_formed p s formed =
    facts_well_formed p (address_reset s) (record { upload = formed; reply = record { last_most = omega arith; last_none = λ e. refl } })

module _ (p : Profile) (s : State) (d : List ℕ) where
  handled_formed_call : (n a : ℕ) (f : List ℕ) (v : Verdict) → Unrefused p s (length d) n → FormedCall p d (handled p s a f d v)
  unfolding handled
  handled_formed_call n a f Reset unrefused = nothing_formed p 1 fresh d (fresh-well_formed p)
  handled_formed_call n a f ResetAddress unrefused =
      nothing_formed p 1 (address_reset s) d (address_reset_formed p s (unrefused_state unrefused).upload)
  handled_formed_call n a f (Ignored reason) unrefused = nothing_formed p (ignored_number reason) s d unrefused.well_formed_holds
  handled_formed_call n a f BadTransfer unrefused =
      finished_call_formed_call p d (destination p.bus a f)
      _ (replying_formed_result p (unrefused_profile unrefused) s (unrefused_state unrefused).upload d unrefused.flash_holds
      invalid_transfer [] (omega arith))
  handled_formed_call n a f BadSum unrefused =
      finished_call_formed_call p d (destination p.bus a f)
      _ (replying_formed_result p (unrefused_profile unrefused) s (unrefused_state unrefused).upload d unrefused.flash_holds
      invalid_crc [] (omega arith))
  handled_formed_call n a f Command unrefused =
      finished_call_formed_call p d (destination p.bus a f) _
      (executed_formed_result p (unrefused_profile unrefused) s (unrefused_state unrefused).upload d unrefused.flash_holds
      (command_of p.bus f) (arguments_of p.bus f))

  pub received_formed_call : (a : ℕ) (f : List ℕ) (n : ℕ) → well_formed p s ≡ true → FormedCall p d (received p s a f d n)
  unfolding received
  received_formed_call a f n formed =
      by_test (eqb (refusal p s (length d) n) 0)
      (λ e. rw e (handled_formed_call n a f _ (refusal_unrefused p s (length d) n (eqb-true _ _ e))))
      (λ e. rw e (nothing_formed p (refusal p s (length d) n) s d formed))

  pub read_out_formed_call : (a n : ℕ) → well_formed p s ≡ true → FormedCall p d (read_out p s a d n)
  unfolding read_out
  read_out_formed_call a n formed =
      by_test (eqb (refusal p s (length d) n) 0)
      (λ e. rw e (by_test (read_answered p.bus s a)
      (λ e. rw e (record { well_formed_holds = formed; outside = outside_refl p d; reply_most = (well_formed_facts p s formed).reply.last_most }))
      (λ e. rw e (nothing_formed p 1 s d formed))))
      (λ e. rw e (nothing_formed p (refusal p s (length d) n) s d formed))

  -- whatever the state, refused or not, bytes outside the working flash are kept
  pub received_outside : (a : ℕ) (f : List ℕ) (n : ℕ) → OutsideKept p d (received p s a f d n).flash
  unfolding received
  received_outside a f n =
      by_test (eqb (refusal p s (length d) n) 0)
      (λ e. rw e (handled_formed_call n a f _ (refusal_unrefused p s (length d) n (eqb-true _ _ e))).outside)
      (λ e. rw e (outside_refl p d))

  -- where none of 2 to 5 applies, a frame is handled by its verdict
  pub received-handled : (a : ℕ) (f : List ℕ) (n : ℕ) → refusal p s (length d) n ≡ 0
      → received p s a f d n ≡ handled p s a f d (verdict p.bus p.longest s.running s.address a f)
  unfolding received
  received-handled a f n e = rw (eq-eqb _ _ e)

  -- else it is refused
  pub received-refused : (a : ℕ) (f : List ℕ) (n : ℕ) → (refusal p s (length d) n ≡ 0 → ⊥)
      → received p s a f d n ≡ refused (refusal p s (length d) n) s d
  unfolding received
  received-refused a f n ne = rw (ne_eqb _ _ ne)

-- the number of an ignored frame is 1, or 2 or above
pub ignored-number : (P : ℕ → Type 0) (reason : Reason) → P 1 → ((n : ℕ) → 2 ≤ n → P n) → P (ignored_number reason)
ignored-number P Running one more = one
ignored-number P Short one more = more 15 (omega arith)
ignored-number P Long one more = more 16 (omega arith)
ignored-number P WrongSum one more = more 17 (omega arith)
ignored-number P (Foreign I2c) one more = one
ignored-number P (Foreign Rs485) one more = more 18 (omega arith)
ignored-number P OtherGeneral one more = one

pub ignored_unanswered : (reason : Reason) → 1 ≤ ignored_number reason
ignored_unanswered reason = ignored-number (λ (n : ℕ). 1 ≤ n) reason (omega arith) (λ n h. omega arith)

-- a command's answer has number 0 or 1
pub finished_call-number : (bus : Bus) (a : ℕ) (act : Acted) → (finished_call bus a act).number ≤ 1
finished_call-number bus a act = go act.response
  where
    go : (r : Response) → (replied bus a r act.state act.flash).number ≤ 1
    go (Reply status results) = omega arith
    go NoReply = omega arith

module _ (p : Profile) (s : State) (a : ℕ) (f d : List ℕ) where
  -- an ignored frame is not answered 0, and state and flash are untouched
  pub ignored-silent : (v : Verdict) → ignored v ≡ true → 1 ≤ (handled p s a f d v).number
  unfolding handled
  ignored-silent Reset e = omega arith
  ignored-silent ResetAddress e = omega arith
  ignored-silent (Ignored reason) e = ignored_unanswered reason
  ignored-silent BadTransfer e = absurd (false≢true e)
  ignored-silent BadSum e = absurd (false≢true e)
  ignored-silent Command e = absurd (false≢true e)

  pub ignored_untouched : (v : Verdict) → ignored v ≡ true → handled p s a f d v ≡ refused (handled p s a f d v).number s d
  unfolding handled
  ignored_untouched Reset e = cc
  ignored_untouched ResetAddress e = cc
  ignored_untouched (Ignored reason) e = refl
  ignored_untouched BadTransfer e = cc
  ignored_untouched BadSum e = cc
  ignored_untouched Command e = cc

  -- only an ignored frame may get a number of 2 or above
  pub numbered-ignored : (v : Verdict) → 2 ≤ (handled p s a f d v).number → ignored v ≡ true
  unfolding handled
  numbered-ignored Reset h = absurd (omega arith)
  numbered-ignored ResetAddress h = absurd (omega arith)
  numbered-ignored (Ignored reason) h = refl
  numbered-ignored BadTransfer h = absurd (omega arith)
  numbered-ignored BadSum h = absurd (omega arith)
  numbered-ignored Command h = absurd (omega (
    arith,
    finished_call-number p.bus (destination p.bus a f)
        (executed p s (command_of p.bus f) (arguments_of p.bus f) d),
  ))

  -- so a number of 2 or above leaves state and flash untouched
  pub handled_untouched : (v : Verdict) → 2 ≤ (handled p s a f d v).number → handled p s a f d v ≡ refused (handled p s a f d v).number s d
  handled_untouched v h = ignored_untouched v (numbered-ignored v h)

-- a refusal is 2 or above
pub refusal_least : (p : Profile) (s : State) (n m : ℕ) → eqb (refusal p s n m) 0 ≡ false → 2 ≤ refusal p s n m
unfolding refusal
refusal_least p s n m e = go (not (in_range p)) (flash_short p n) (not (well_formed p s)) (buffer_short p m) e
  where
    go : (range flash state buffer : Bool) → eqb (cond range 2 (cond flash 3 (cond state 4 (cond buffer 5 0)))) 0 ≡ false
        → 2 ≤ cond range 2 (cond flash 3 (cond state 4 (cond buffer 5 0)))
    go true flash state buffer e = omega arith
    go false true state buffer e = omega arith
    go false false true buffer e = omega arith
    go false false false true e = omega arith
    go false false false false e = absurd (false≢true (sym e))

-- an I²C read changes nothing
module _ (p : Profile) (s : State) (a : ℕ) (d : List ℕ) (n : ℕ) where
  pub read_out_state : (read_out p s a d n).state ≡ s
  unfolding read_out
  read_out_state =
      by_test (eqb (refusal p s (length d) n) 0) (λ e. by_test (read_answered p.bus s a) (λ r. rw (e, r)) (λ r. rw (e, r))) (λ e. rw e)

  pub read_out_flash : (read_out p s a d n).flash ≡ d
  unfolding read_out
  read_out_flash =
      by_test (eqb (refusal p s (length d) n) 0) (λ e. by_test (read_answered p.bus s a) (λ r. rw (e, r)) (λ r. rw (e, r))) (λ e. rw e)

-- a call that replied on I²C is what a read at its address afterwards gives
pub read_again : (p : Profile) (c : Called) (address buffer : ℕ) → p.bus ≡ I2c → refusal p c.state (length c.flash) buffer ≡ 0
    → c.state.running ≡ false → addressed I2c c.state.address address ≡ true → c.state.last ≡ c.reply
    → (length c.reply ≡ 0 → ⊥) → c.number ≡ 0
    → read_out p c.state address c.flash buffer ≡ c
unfolding read_out
read_again p c address buffer i none stopped heard last some number =
    let answered : read_answered p.bus c.state address ≡ true = rw (i, stopped, heard, last, ne_eqb _ _ some) in
    rw (eq-eqb _ _ none, answered) (ap (λ (n : ℕ). numbered n c.state.last) (sym number) ∙ ap (numbered c.number) last)
  where
    numbered : ℕ → List ℕ → Called
    numbered n r = record { number = n; reply = r; state = c.state; flash = c.flash }
