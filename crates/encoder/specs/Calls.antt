-- What a call that writes a request promises, as an equation with the definitions of document 01.
use Rattle.std.specs.Prelude.{◌≡◌, List, ℕ, length}
use Rattle.rules.specs.Numbers.{laid}
use Rattle.rules.specs.Master.{Encoding}

-- its number, how many bytes it made, and every byte of the lent output
pub record Encodes (number made : ℕ) (e : Encoding) (before after : List ℕ) : Type 0 where
  pub number_is : number ≡ e.number
  pub length_is : made ≡ length e.bytes
  pub output_is : after ≡ laid e.bytes before
