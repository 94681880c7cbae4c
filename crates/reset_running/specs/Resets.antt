-- The general-call reset in a lent output: what the encoder makes of it under any M in range.
use Rattle.std.specs.Prelude.{cond, ℕ, ltb, length}
use Rattle.rules.specs.declared.kinds.Bus.{Bus}
use Rattle.rules.specs.Frames.{reset_frame}
use Rattle.rules.specs.Master.{Encoding, unmade}

-- 6, else its bytes
unfoldable pub reset_into : Bus → ℕ → Encoding
reset_into bus outputLength =
    cond (ltb outputLength (length (reset_frame bus))) (unmade 6) (record { number = 0; bytes = reset_frame bus })
