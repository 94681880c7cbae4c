-- What a check of a call answers.
use Rattle.std.specs.Prelude.{Result, Ok, Err, cond, ℕ, eqb}
use Rattle.rules.specs.declared.kinds.Outcome.{Outcome}
use Rattle.rules.specs.declared.kinds.Outcome.TheVariants.{ProfileOutOfRange, FlashTooShort, StateMalformed, BufferTooShort}

-- the answer of a refusal's number; the call goes on at 0
unfoldable pub check_of : ℕ → Result (Unit {0}) Outcome
check_of n =
    cond (eqb n 2) (Err ProfileOutOfRange)
    (cond (eqb n 3) (Err FlashTooShort)
    (cond (eqb n 4) (Err StateMalformed)
    (cond (eqb n 5) (Err BufferTooShort) (Ok tt))))
