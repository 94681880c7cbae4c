-- What the two board calls promise: an equation with the rules for the answer, the state, every flash byte and every byte of the lent
-- buffer.
use Rattle.std.specs.Prelude.{◌≡◌, true, List, ℕ, ◌≤◌, length}
use Rattle.rules.specs.declared.kinds.Bus.TheVariants.{I2c, Rs485}
use Rattle.rules.specs.declared.kinds.Outcome.{Outcome}
use Rattle.rules.specs.declared.kinds.Outcome.TheVariants.{Nothing, FrameTooShort, FrameTooLong, FrameSumWrong, FrameForeign}
use Rattle.rules.specs.declared.kinds.Reason.{Reason}
use Rattle.rules.specs.declared.kinds.Reason.TheVariants.{Running, Short, Long, WrongSum, Foreign, OtherGeneral}
use Rattle.rules.specs.declared.kinds.Verdict.{Verdict}
use Rattle.rules.specs.State as rules
use Rattle.rules.specs.Numbers.{number, made, laid}
use Rattle.rules.specs.Frames.{ignored}
use Rattle.rules.specs.Board.{Called}
use Rattle.state.specs.declared.State.{State}
use Rattle.state.specs.View.{view}
use Rattle.answer.specs.declared.Answer.{Answer}

-- W3: an ignored frame's answer says why it gets no reply, where that has a number of its own
abbrev pub ignored_outcome : Reason → Outcome
ignored_outcome Running = Nothing
ignored_outcome Short = FrameTooShort
ignored_outcome Long = FrameTooLong
ignored_outcome WrongSum = FrameSumWrong
ignored_outcome (Foreign Rs485) = FrameForeign
ignored_outcome (Foreign I2c) = Nothing
ignored_outcome OtherGeneral = Nothing

pub record CallEffect : Type 0 where
  pub number : ℕ
  pub made : ℕ
  pub state : rules.State
  pub flash : List ℕ
  pub out : List ℕ

-- what a call answered and left
abbrev pub call_effect : Answer State → List ℕ → List ℕ → CallEffect
call_effect r d out = record { number = number r.outcome; made = made r.outcome; state = view r.state; flash = d; out = out }

-- what the rules say of it: the reply stands in the first bytes of the lent buffer, its rest is untouched
abbrev pub expected_effect : Called → List ℕ → CallEffect
expected_effect c out =
    record { number = c.number; made = length c.reply; state = c.state; flash = c.flash; out = laid c.reply out }

-- a call on the state s answered r, and left the flash d and the buffer out, which was before
pub record Answered (s : State) (r : Answer State) (d out before : List ℕ) (c : Called) : Type 0 where
  -- of the state its view: after 0 and 1 the bytes that mean nothing are left open
  pub called : call_effect r d out ≡ expected_effect c before
  -- refused by 2 or above: the very state that was given, bytes that mean nothing too
  pub untouched : 2 ≤ number r.outcome → r.state ≡ s

-- a received frame of verdict v
pub record FrameAnswered (s : State) (r : Answer State) (d out before : List ℕ) (c : Called) (v : Verdict) : Type 0 where
  pub answered : Answered s r d out before c
  -- ignored: the very state that was given, bytes that mean nothing too
  pub ignored_kept : ignored v ≡ true → r.state ≡ s

-- an I²C read: whatever its number, the very state that was given, bytes that mean nothing too
pub record ReadAnswered (s : State) (r : Answer State) (d out before : List ℕ) (c : Called) : Type 0 where
  pub called : call_effect r d out ≡ expected_effect c before
  pub state_is : r.state ≡ s
