-- `crc_steps::other_half_first_fails` meets its contract: a table by the rule for the other half, and a register of 1.
use Rattle.std.proofs.Common.{◌≡◌, refl, List, [], ◌∷◌, ℕ, arith}
use Rattle.rules.specs.CheckSums.{bit, byte}
use Rattle.crc_steps.specs.HalfBytes.{entries_right, half_step, table_step}
use Rattle.crc_steps.proofs.other_half_first_fails.Goals as goal

-- four steps from the half that leaves last: nothing falls out
last8 : List ℕ
last8 = 0 ∷ 16 ∷ 32 ∷ 48 ∷ 64 ∷ 80 ∷ 96 ∷ 112 ∷ 128 ∷ 144 ∷ 160 ∷ 176 ∷ 192 ∷ 208 ∷ 224 ∷ 240 ∷ []

last16 : List ℕ
last16 = 0 ∷ 1 ∷ 2 ∷ 3 ∷ 4 ∷ 5 ∷ 6 ∷ 7 ∷ 8 ∷ 9 ∷ 10 ∷ 11 ∷ 12 ∷ 13 ∷ 14 ∷ 15 ∷ []

pub returns : goal.returns
unfolding last8 last16 entries_right half_step table_step bit byte
returns c = (
  λ claim. let e : ◌≡◌ {A = ℕ} 1 7 = claim last8 refl 1 0 (omega arith) (omega arith) in absurd (omega (arith, e)),
  λ claim. let e : ◌≡◌ {A = ℕ} 1 0xC0C1 = claim last16 refl 1 0 (omega arith) (omega arith) in absurd (omega (arith, e)),
)
