-- Laws of requests and replies as frames: what a board finds in a request, and what the decoder finds in a reply. Why: on each bus both are
-- a header, a body and the body's check sum.
use mathlib.Core.Path.{◌≡◌, refl, ap, ◌∙◌}
use mathlib.Core.Bool.{true, false, not}
use mathlib.Core.List.{List, [], ◌∷◌, ◌++◌, append_assoc}
use Prim.Native.Nat.{ℕ, ◌+◌, ◌≤◌}
use native.Mathlib.Omega.{arith}
use lib.Dec.{eqb}
use lib.ListN.{length, take, drop, length-append}
use lib.Seq.{take_at}
use borrow.Author.Tests.{le-ltb, le-leb, eq-eqb, not-true}
use Rattle.rules.specs.declared.kinds.Bus.{Bus}
use Rattle.rules.specs.declared.kinds.Bus.TheVariants.{I2c, Rs485}
use Rattle.rules.specs.declared.kinds.Address.{Address}
use Rattle.rules.specs.declared.kinds.Verdict.TheVariants.{Command}
use Rattle.rules.specs.CheckSums.{sum, sealed, sum_right}
use Rattle.rules.specs.Frames.{header_length, shortest_request, shortest_reply, request, reply, destination, addressed, framing, verdict}
use Rattle.rules.specs.Frames.{command_of, arguments_of}
use Rattle.rules.specs.Commands.{served}
use Rattle.rules.specs.Master.{results_missing, length_right, from_other, status_of, count_of, opened, decoded}
use Rattle.laws.proofs.TestLaws.{&&_true}
use Rattle.laws.proofs.CommandLaws.{length-reply}
use Rattle.laws.proofs.CheckSumLaws.{length-sealed, unsealed-sealed, sum_right-sealed}

-- requests

pub length-request : (bus : Bus) (to code : ℕ) (arguments : List ℕ)
    → length (request bus to code arguments) ≡ shortest_request bus + length arguments
unfolding request
length-request I2c to code arguments = omega (arith, length-sealed I2c (code ∷ arguments))
length-request Rs485 to code arguments = omega (arith, length-sealed Rs485 (to ∷ code ∷ arguments))

pub sum_right-request : (bus : Bus) (to code : ℕ) (arguments : List ℕ) → sum_right bus (request bus to code arguments) ≡ true
unfolding request
sum_right-request bus to code arguments = sum_right-sealed bus _

pub command_of-request : (bus : Bus) (to code : ℕ) (arguments : List ℕ) → command_of bus (request bus to code arguments) ≡ code
unfolding request sealed
command_of-request I2c to code arguments = refl
command_of-request Rs485 to code arguments = refl

pub arguments_of-request : (bus : Bus) (to code : ℕ) (arguments : List ℕ) → arguments_of bus (request bus to code arguments) ≡ arguments
unfolding request
arguments_of-request I2c to code arguments = ap (drop 1) (unsealed-sealed I2c (code ∷ arguments))
arguments_of-request Rs485 to code arguments = ap (drop 2) (unsealed-sealed Rs485 (to ∷ code ∷ arguments))

-- RS485 requests carry where they are sent
pub destination-request : (beside to code : ℕ) (arguments : List ℕ) → destination Rs485 beside (request Rs485 to code arguments) ≡ to
unfolding request sealed
destination-request beside to code arguments = refl

-- an address of the board is not the general call
pub addressed_address : (bus : Bus) (own : Address) (a : ℕ) → addressed bus own a ≡ true → eqb a 0 ≡ false
unfolding addressed
addressed_address bus own a e = not-true (eqb a 0) (&&_true (not (eqb a 0)) _ e).0

-- a request of at most M bytes to an address of the board
pub framing-request : (bus : Bus) (M : ℕ) (own : Address) (beside to code : ℕ) (arguments : List ℕ)
    → destination bus beside (request bus to code arguments) ≡ to → addressed bus own to ≡ true → shortest_request bus + length arguments ≤ M
    → framing bus M own beside (request bus to code arguments) ≡ Command
unfolding framing
framing-request I2c M own beside to code arguments sent heard fits =
    let long = length-request I2c to code arguments in
    rw (
      sent,
      addressed_address I2c own to heard,
      heard,
      long,
      le-ltb (shortest_request I2c + length arguments) (shortest_request I2c) (omega arith),
      le-ltb M (shortest_request I2c + length arguments) fits,
      sum_right-request I2c to code arguments,
    )
framing-request Rs485 M own beside to code arguments sent heard fits =
    let long = length-request Rs485 to code arguments in
    rw (
      long,
      le-ltb (shortest_request Rs485 + length arguments) (shortest_request Rs485) (omega arith),
      le-ltb M (shortest_request Rs485 + length arguments) fits,
      sum_right-request Rs485 to code arguments,
      sent,
      addressed_address Rs485 own to heard,
      heard,
    )

-- to a board that is not running
pub verdict-request : (bus : Bus) (M : ℕ) (own : Address) (beside to code : ℕ) (arguments : List ℕ)
    → destination bus beside (request bus to code arguments) ≡ to → addressed bus own to ≡ true → shortest_request bus + length arguments ≤ M
    → verdict bus M false own beside (request bus to code arguments) ≡ Command
unfolding verdict
verdict-request bus M own beside to code arguments sent heard fits =
    rw (sent, addressed_address bus own to heard) (framing-request bus M own beside to code arguments sent heard fits)

-- replies: what the decoder finds in one that is whole, with bytes after it or none

-- on RS485 nothing may follow
abbrev pub Ends : Bus → List ℕ → Type 0
Ends I2c more = Unit
Ends Rs485 more = more ≡ []

pub sum_right-reply : (bus : Bus) (to status : ℕ) (results : List ℕ) → sum_right bus (reply bus to status results) ≡ true
unfolding reply
sum_right-reply bus to status results = sum_right-sealed bus _

module _ (to status : ℕ) (results more : List ℕ) where
  -- what is received
  abbrev pub got : Bus → List ℕ
  got bus = reply bus to status results ++ more

  status_of-reply : (bus : Bus) → status_of bus (got bus) ≡ status
  unfolding reply sealed
  status_of-reply I2c = refl
  status_of-reply Rs485 = refl

  count_of_reply : (bus : Bus) → count_of bus (got bus) ≡ length results
  unfolding reply sealed
  count_of_reply I2c = refl
  count_of_reply Rs485 = refl

  from_other-reply : (bus : Bus) → from_other bus to (got bus) ≡ false
  unfolding reply sealed
  from_other-reply I2c = refl
  from_other-reply Rs485 = rw (eq-eqb to to refl)

  length_got : (bus : Bus) → length (got bus) ≡ shortest_reply bus + length results + length more
  length_got bus = length-append (reply bus to status results) more ∙ rw (length-reply bus to status results)

  length_right-reply : (bus : Bus) → Ends bus more → length_right bus (length results) (length (got bus)) ≡ true
  length_right-reply I2c ends = le-leb (length results + shortest_reply I2c) (length (got I2c)) (omega (arith, length_got I2c))
  length_right-reply Rs485 ends =
      eq-eqb (length results + shortest_reply Rs485) (length (got Rs485)) (omega (arith, length_got Rs485, ap length ends))

  take-reply : (bus : Bus) → take (length results + shortest_reply bus) (got bus) ≡ reply bus to status results
  take-reply bus =
      take_at (reply bus to status results) more (length results + shortest_reply bus) (omega (arith, length-reply bus to status results))

  pub results-reply : (bus : Bus) → take (length results) (drop (header_length bus + 2) (got bus)) ≡ results
  unfolding reply sealed
  results-reply I2c =
      ap (take (length results)) (append_assoc results (sum I2c (status ∷ length results ∷ results)) more)
      ∙ take_at results _ (length results) refl
  results-reply Rs485 =
      ap (take (length results)) (append_assoc results (sum Rs485 (to ∷ status ∷ length results ∷ results)) more)
      ∙ take_at results _ (length results) refl

  -- the decoder reads it
  pub decoded-reply : (bus : Bus) (code asked : ℕ) → served code ≡ true → Ends bus more → status ≤ 5
      → results_missing code asked status (length results) ≡ false
      → decoded bus code to asked (got bus) ≡ record { number = 0; status = status; start = header_length bus + 2; len = length results }
  unfolding decoded opened
  decoded-reply bus code asked row ends known enough =
      rw (
        row,
        le-ltb (length (got bus)) (shortest_reply bus) (omega (arith, length_got bus)),
        count_of_reply bus,
        length_right-reply bus ends,
        take-reply bus,
        sum_right-reply bus to status results,
        from_other-reply bus,
        status_of-reply bus,
        le-ltb 5 status known,
        enough,
      )

-- the shortest request, on either bus

pub shortest_request-le : (bus : Bus) → shortest_request bus ≤ 4
shortest_request-le I2c = omega arith
shortest_request-le Rs485 = omega arith
