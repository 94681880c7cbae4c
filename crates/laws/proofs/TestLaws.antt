-- Laws of tests, for all proofs: a goal by a test's two values, and what is known of the parts of a joined test.
use mathlib.Core.Path.{◌≡◌, refl}
use mathlib.Core.Bool.{Bool, true, false, ◌&&◌, ◌||◌}

-- a goal by the two values of a test
pub by_test : {G : Type 0} (b : Bool) → (b ≡ true → G) → (b ≡ false → G) → G
by_test true then else = then refl
by_test false then else = else refl

-- tests that hold together
pub &&_true : (a b : Bool) → (a && b) ≡ true → (a ≡ true) × (b ≡ true)
&&_true true b e = (refl, e)
&&_true false b e = (e, cc)

-- tests of which none holds
pub ||_false : (a b : Bool) → (a || b) ≡ false → (a ≡ false) × (b ≡ false)
||_false true b e = (e, cc)
||_false false b e = (refl, e)
