-- What the board's call with a lent tally promises: all that the call without one does, and the tally by the rules' number.
use Rattle.std.specs.Prelude.{◌≡◌, List, ℕ}
use Rattle.rules.specs.declared.kinds.Verdict.{Verdict}
use Rattle.rules.specs.Board.{Called}
use Rattle.state.specs.declared.State.{State}
use Rattle.answer.specs.declared.Answer.{Answer}
use Rattle.answer.specs.Answered.{FrameAnswered}
use Rattle.tally.specs.declared.Tally.{Tally}
use Rattle.tally.specs.Tally.{tallied}

-- a received frame of verdict v on the state s was answered by r, and left the flash d, the buffer out, which was before, and the tally t,
-- which was t₀
pub record FrameTallied (s : State) (r : Answer State) (d out before : List ℕ) (t t₀ : Tally) (c : Called) (v : Verdict) : Type 0 where
  pub answered : FrameAnswered s r d out before c v
  -- counted once, by the number that the rules give this very call
  pub counted : t ≡ tallied t₀ c.number
