-- Document 01, "Numbers that calls answer": the number and the values of each case of an answer, and the order of 2 to 5.
use Rattle.std.specs.Prelude.{◌≡◌, Bool, true, cond, not, List, ◌++◌, ℕ, ◌+◌, ◌≤◌, ltb, length, drop}
use Rattle.rules.specs.declared.kinds.Outcome.{Outcome}
use Rattle.rules.specs.declared.kinds.Outcome.TheVariants.{Reply, Nothing, ProfileOutOfRange, FlashTooShort, StateMalformed}
use Rattle.rules.specs.declared.kinds.Outcome.TheVariants.{BufferTooShort, FrameTooShort, FrameTooLong, FrameSumWrong, FrameForeign}
use Rattle.rules.specs.declared.kinds.Bus.TheVariants.{I2c, Rs485}
use Rattle.rules.specs.declared.kinds.Reason.{Reason}
use Rattle.rules.specs.declared.kinds.Reason.TheVariants.{Running, Short, Long, WrongSum, Foreign, OtherGeneral}
use Rattle.rules.specs.Profile.{Profile, in_range}
use Rattle.rules.specs.State.{State, well_formed}

-- the number of a board call's answer
abbrev pub number : Outcome → ℕ
number (Reply k) = 0
number Nothing = 1
number ProfileOutOfRange = 2
number FlashTooShort = 3
number StateMalformed = 4
number BufferTooShort = 5
number FrameTooShort = 15
number FrameTooLong = 16
number FrameSumWrong = 17
number FrameForeign = 18

-- how many bytes of the lent output an answer says were made
abbrev pub made : Outcome → ℕ
made (Reply k) = k
made Nothing = 0
made ProfileOutOfRange = 0
made FlashTooShort = 0
made StateMalformed = 0
made BufferTooShort = 0
made FrameTooShort = 0
made FrameTooLong = 0
made FrameSumWrong = 0
made FrameForeign = 0

-- W3: the number of an ignored frame. On RS485 15 short, 16 long, 17 CRC, 18 foreign; 1 stays for all else
abbrev pub ignored_number : Reason → ℕ
ignored_number Running = 1
ignored_number Short = 15
ignored_number Long = 16
ignored_number WrongSum = 17
ignored_number (Foreign Rs485) = 18
ignored_number (Foreign I2c) = 1
ignored_number OtherGeneral = 1

-- 0 fills k bytes of the lent output from its start; the rest stays
abbrev pub laid : List ℕ → List ℕ → List ℕ
laid bytes out = bytes ++ drop (length bytes) out

-- 3: the lent flash of n bytes is shorter than O + S
abbrev pub flash_short : Profile → ℕ → Bool
flash_short p n = ltb n (p.offset + p.size)

-- 5: the reply buffer of n bytes is shorter than M
abbrev pub buffer_short : Profile → ℕ → Bool
buffer_short p n = ltb n p.longest

-- the first of 2, 3, 4, 5 that a board call has to answer; 0 for none
unfoldable pub refusal : Profile → State → ℕ → ℕ → ℕ
refusal p s flashLength bufferLength =
    cond (not (in_range p)) 2
    (cond (flash_short p flashLength) 3
    (cond (not (well_formed p s)) 4
    (cond (buffer_short p bufferLength) 5 0)))

-- none of 2 to 5 applies
pub record Unrefused (p : Profile) (s : State) (flashLength bufferLength : ℕ) : Type 0 where
  pub in_range_holds : in_range p ≡ true
  pub flash_holds : p.offset + p.size ≤ flashLength
  pub well_formed_holds : well_formed p s ≡ true
  pub buffer_holds : p.longest ≤ bufferLength
