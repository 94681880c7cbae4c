-- What the functions inside a board call promise, where the head of the state goes by value and its two buffers are lent: w is that of the
-- waiting bytes, l that of the last reply, whose bytes are written at the end of the call.
use Rattle.std.specs.Prelude.{◌≡◌, Option, Some, None, true, List, ℕ, ◌+◌, ◌≤◌, length, take, drop}
use Rattle.rules.specs.declared.kinds.Bus.{Bus}
use Rattle.rules.specs.declared.kinds.Outcome.TheVariants.{Nothing}
use Rattle.rules.specs.declared.kinds.Verdict.{Verdict}
use Rattle.rules.specs.Numbers.{number, made}
use Rattle.rules.specs.Frames.{shortest_reply, ignored}
use Rattle.rules.specs.Board.{Called}
use Rattle.state.specs.declared.Head.{Head}
use Rattle.state.specs.View.{view, largest_frame}
use Rattle.state.specs.Heads.{state_with, kept_reply}
use Rattle.response.specs.declared.Response.{Response}
use Rattle.answer.specs.declared.Answer.{Answer}
use Rattle.answer.specs.Answered.{CallEffect, expected_effect}

-- nothing to send: number 1 and the very head
abbrev pub silent : Head → Answer Head
silent h = record { outcome = Nothing; state = h }

-- what a call answers and leaves, once the reply is kept
abbrev pub head_effect : Bus → Answer Head → List ℕ → List ℕ → List ℕ → List ℕ → CallEffect
head_effect bus r w l d out = record {
  number = number r.outcome;
  made = made r.outcome;
  state = view (state_with r.state w (kept_reply bus (take (made r.outcome) out) l));
  flash = d;
  out = out;
}

-- a call is answered by r; it was lent the waiting bytes' buffer w and the output before, and leaves w', the flash d and the output out.
-- c l is what the rules say where l is the last reply's buffer
pub record HeadAnswered (bus : Bus) (r : Answer Head) (w w' d out before : List ℕ) (c : List ℕ → Called) : Type 0 where
  pub called : (l : List ℕ) → head_effect bus r w' l d out ≡ expected_effect (c l) before
  -- bytes behind the waiting ones are untouched
  pub behind : drop r.state.counts.held w' ≡ drop r.state.counts.held w

-- a frame of verdict v, handled on the head h
pub record Handled (bus : Bus) (h : Head) (r : Answer Head) (w w' d out before : List ℕ) (c : List ℕ → Called) (v : Verdict) : Type 0 where
  pub answered : HeadAnswered bus r w w' d out before c
  -- an ignored frame: the very head and buffer that were given
  pub head_kept : ignored v ≡ true → r.state ≡ h
  pub buffer_kept : ignored v ≡ true → w' ≡ w

-- a response's results fit a lent buffer of n bytes and the last reply
abbrev pub Fits : Bus → ℕ → Option Response → Type 0
Fits bus n (Some r) = (r.count + shortest_reply bus ≤ largest_frame) × (r.count + shortest_reply bus ≤ n)
Fits bus n None = Unit
