-- What a test answered.
use Rattle.std.proofs.Common.{◌≡◌, sym, ◌∙◌, Bool, true, false}

-- a call answered the value of a test
pub answered_false : {r t : Bool} → r ≡ t → r ≡ false → t ≡ false
answered_false e h = sym e ∙ h

pub answered_true : {r t : Bool} → r ≡ t → r ≡ true → t ≡ true
answered_true e h = sym e ∙ h
