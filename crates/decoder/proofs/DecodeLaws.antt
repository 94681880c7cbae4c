-- Where the parts of a reply lie, on either bus.
use mathlib.Core.Path.{◌≡◌}
use mathlib.Core.Bool.{true}
use mathlib.Core.List.{List}
use Prim.Native.Nat.{ℕ, ◌+◌, ◌≤◌}
use native.Mathlib.Omega.{arith}
use lib.ListN.{length}
use borrow.Author.Tests.{leb-true, eqb-true}
use Rattle.rules.specs.declared.kinds.Bus.{Bus}
use Rattle.rules.specs.declared.kinds.Bus.TheVariants.{I2c, Rs485}
use Rattle.rules.specs.declared.requests.Decoded.{Decoded}
use Rattle.rules.specs.Frames.{shortest_reply}
use Rattle.rules.specs.Master.{Decoding, decoded_as, length_right}
use Rattle.decoder.specs.Calls.{Decodes}

-- a reply whose length byte fits has all its results and the check sum
pub length_right-le : (bus : Bus) (n long : ℕ) → length_right bus n long ≡ true → n + shortest_reply bus ≤ long
length_right-le I2c n long e = leb-true _ _ e
length_right-le Rs485 n long e = omega (arith, eqb-true (n + shortest_reply Rs485) long e)

-- an answer whose part lies within the reply
pub decodes : (answer : Decoded) (d : Decoding) (reply : List ℕ) → decoded_as answer ≡ d
    → (decoded_as answer).start + (decoded_as answer).len ≤ length reply → Decodes answer d reply
decodes answer d reply e within = record { answer_is = e; within = rw e at within }
