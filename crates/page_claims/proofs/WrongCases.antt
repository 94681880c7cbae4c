-- The states and the call that wrong claims and wrong boards are tried on.
use Prim.Native.Nat.{ℕ}
use lib.ListN.{replicate}
use Rattle.rules.specs.State.{State, fresh, with_upload}

-- next, and so many waiting bytes 7
abbrev pub state_with : ℕ → ℕ → State
state_with next w = with_upload fresh (record { next = next; waiting = replicate w 7; count = 0 })
