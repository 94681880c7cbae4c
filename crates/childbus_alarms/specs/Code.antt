-- The number of a silence in C.
use Rattle.std.specs.Prelude.{ℕ, Option, Some, None}
use Rattle.childbus_alarms.specs.declared.Silence.{Silence}
use Rattle.childbus_alarms.specs.declared.Silence.TheVariants.{Running, Short, Long, Crc, Foreign, General, HardwareType, Reset, Start}

abbrev pub silence_code : Silence → ℕ
silence_code Running = 1
silence_code Short = 2
silence_code Long = 3
silence_code Crc = 4
silence_code Foreign = 5
silence_code General = 6
silence_code HardwareType = 7
silence_code Reset = 8
silence_code Start = 9

-- 0 where there is none
abbrev pub told_code : Option Silence → ℕ
told_code (Some silence) = silence_code silence
told_code None = 0
