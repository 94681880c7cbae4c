-- What a technician must not miss after a call: a finalize that erased nothing. A silence that is no dead board is the rules' `ignored`.
use Rattle.std.specs.Prelude.{Bool, ◌&&◌, List, ℕ, eqb}
use Rattle.rules.specs.declared.kinds.Bus.{Bus}
use Rattle.ledger.specs.Ledger.{is_finalize}

-- erased nothing: the call is an answered finalize, and the erase count is 0
abbrev pub erased_nothing : Bus → List ℕ → ℕ → List ℕ → ℕ → Bool
erased_nothing bus frame number reply count = is_finalize bus frame number reply && eqb count 0
