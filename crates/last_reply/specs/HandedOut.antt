-- An I²C read, where none of numbers 2 to 5 applies: the last reply if this address gets it. `read_out` of rules has the refusals before it.
use Rattle.std.specs.Prelude.{cond, List, ℕ}
use Rattle.rules.specs.declared.kinds.Bus.{Bus}
use Rattle.rules.specs.State.{State}
use Rattle.rules.specs.Board.{Called, nothing, read_answered}

abbrev pub handed_out : Bus → State → ℕ → List ℕ → Called
handed_out bus s a d = cond (read_answered bus s a) (record { number = 0; reply = s.last; state = s; flash = d }) (nothing s d)
