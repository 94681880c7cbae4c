-- What a call promises that is not refused, and that a read keeps what any call promises. Inside a call: an answer without a reply, the
-- number of an ignored frame, and what a reply leaves of the upload.
use mathlib.Core.Path.{◌≡◌, refl, sym, ap, ◌∙◌}
use mathlib.Core.List.{List, []}
use Prim.Native.Nat.{ℕ, ◌≤◌}
use native.Mathlib.Omega.{arith}
use Rattle.rules.specs.declared.kinds.Bus.{Bus}
use Rattle.rules.specs.declared.kinds.Bus.TheVariants.{I2c, Rs485}
use Rattle.rules.specs.declared.kinds.Reason.{Reason}
use Rattle.rules.specs.declared.kinds.Reason.TheVariants.{Running, Short, Long, WrongSum, Foreign, OtherGeneral}
use Rattle.rules.specs.Numbers.{number, ignored_number}
use Rattle.rules.specs.State as rules
use Rattle.rules.specs.Responses as responses
use Rattle.rules.specs.Responses.{Acted, Reply, NoReply}
use Rattle.rules.specs.Board.{Called, nothing, refused, replied, finished_call}
use Rattle.state.specs.declared.State.{State}
use Rattle.state.specs.declared.Head.{Head}
use Rattle.state.specs.View.{view}
use Rattle.state.specs.Heads.{state_with, kept_reply}
use Rattle.state.proofs.Laws.{used_many}
use Rattle.response.specs.declared.Done.{Done}
use Rattle.response.specs.Done.{CommandEffect, Commanded}
use Rattle.answer.specs.declared.Answer.{Answer}
use Rattle.answer.specs.Answered.{ignored_outcome, CallEffect, call_effect, expected_effect, Answered}
use Rattle.answer.specs.Answered.{ReadAnswered}
use Rattle.answer.specs.HeadAnswered.{silent, head_effect, HeadAnswered}

-- a call that is not refused makes no promise about bytes that mean nothing
pub answered : (s : State) (r : Answer State) (d out before : List ℕ) (c : Called) → call_effect r d out ≡ expected_effect c before
    → c.number ≤ 1 → Answered s r d out before c
answered s r d out before c e small =
    record {
      called = e;
      untouched = λ two. absurd
          (let n : number r.outcome ≡ c.number = ap (λ (x : CallEffect). x.number) e in omega arith);
    }

-- a read promises more
pub read_answered_lem : {s : State} {r : Answer State} {d out before : List ℕ} {c : Called} → ReadAnswered s r d out before c
    → Answered s r d out before c
read_answered_lem h = record { called = h.called; untouched = λ two. h.state_is }

-- inside a call

pub kept_reply_none : (bus : Bus) (l : List ℕ) → kept_reply bus [] l ≡ l
kept_reply_none I2c l = refl
kept_reply_none Rs485 l = refl

-- without a reply the last reply's buffer stays
pub silent_effect : (bus : Bus) (h : Head) (w l d out : List ℕ)
    → head_effect bus (silent h) w l d out ≡ expected_effect (nothing (view (state_with h w l)) d) out
silent_effect bus h w l d out = rw (kept_reply_none bus l)

-- an ignored frame is answered by its number, and leaves all untouched
pub ignored_effect : (bus : Bus) (reason : Reason) (h : Head) (w l d out : List ℕ)
    → head_effect bus (record { outcome = ignored_outcome reason; state = h }) w l d out
    ≡ expected_effect (refused (ignored_number reason) (view (state_with h w l)) d) out
ignored_effect bus Running h w l d out = rw (kept_reply_none bus l)
ignored_effect bus Short h w l d out = rw (kept_reply_none bus l)
ignored_effect bus Long h w l d out = rw (kept_reply_none bus l)
ignored_effect bus WrongSum h w l d out = rw (kept_reply_none bus l)
ignored_effect bus (Foreign I2c) h w l d out = rw (kept_reply_none bus l)
ignored_effect bus (Foreign Rs485) h w l d out = rw (kept_reply_none bus l)
ignored_effect bus OtherGeneral h w l d out = rw (kept_reply_none bus l)

-- a reply leaves the upload
pub finished_call-upload : (bus : Bus) (to : ℕ) (a : Acted) → (finished_call bus to a).state.upload ≡ a.state.upload
finished_call-upload bus to a = go bus a.response
  where
    go : (b : Bus) (r : responses.Response) → (replied b to r a.state a.flash).state.upload ≡ a.state.upload
    go I2c (Reply status results) = refl
    go Rs485 (Reply status results) = refl
    go I2c NoReply = refl
    go Rs485 NoReply = refl

-- a command's response as an answer: as many bytes wait as the command left
pub responded : (bus : Bus) (to : ℕ) (done : Done) (r : Answer Head) (w w' d out out' o : List ℕ) (at : ℕ) (a : List ℕ → Acted)
    → Commanded done w w' d out a o at
    → ((l : List ℕ) → head_effect bus r w' l d out' ≡ expected_effect (finished_call bus to (a l)) o)
    → HeadAnswered bus r w w' d out' o (λ l. finished_call bus to (a l))
responded bus to done r w w' d out out' o at a commanded told =
    let same : r.state.counts.held ≡ done.head.counts.held =
    used_many r.state.counts.held done.head.counts.held w' w'
    (ap (λ (x : CallEffect). x.state.upload.waiting) (told [])
    ∙ ap (λ (u : rules.Upload). u.waiting) (finished_call-upload bus to (a []))
    ∙ sym (ap (λ (x : CommandEffect). x.state.upload.waiting) (commanded.ruled []))) in
    record { called = told; behind = rw same commanded.behind }
