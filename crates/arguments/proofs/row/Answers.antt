-- `arguments::row` meets its contract: the table in the code is the definition's, and past its end both have zeros.
use Rattle.std.proofs.Common.{◌≡◌, refl, sym, ◌∙◌, [], ◌∷◌, ℕ, zero, suc, get_or, rules}
use Rattle.rules.specs.Commands.{tabled}
use Rattle.laws.proofs.ArgumentLaws.{tabled_past}
use Rattle.arguments.proofs.row.Goals as goal

zeros : (column : ℕ) → ◌≡◌ {A = ℕ} (get_or (0 ∷ 0 ∷ 0 ∷ []) column 0) 0
zeros zero = refl
zeros (suc zero) = refl
zeros (suc (suc zero)) = refl
zeros (suc (suc (suc n))) = refl

pub returns-then-code-ge15 : goal.returns-then-code-ge15
returns-then-code-ge15 c = λ column. zeros column ∙ sym (tabled_past _ column c.if-code-ge15.true)

pub returns : goal.returns
unfolding tabled
returns c = search rules
