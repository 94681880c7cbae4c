-- What the decoder promises, as an equation with the definition of document 01.
use Rattle.std.specs.Prelude.{◌≡◌, List, ℕ, ◌+◌, ◌≤◌, length}
use Rattle.rules.specs.declared.requests.Decoded.{Decoded}
use Rattle.rules.specs.Master.{Decoding, decoded_as}

-- its number, the status and where the results lie, which is within the reply
pub record Decodes (answer : Decoded) (d : Decoding) (reply : List ℕ) : Type 0 where
  pub answer_is : decoded_as answer ≡ d
  pub within : d.start + d.len ≤ length reply
