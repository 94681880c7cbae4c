-- What holds where the encoder makes a request: its bytes, and that no test of the encoder stood against it.
use mathlib.Core.Path.{◌≡◌, refl}
use mathlib.Core.Bool.{Bool, true, false, cond, not}
use mathlib.Core.List.{List}
use Prim.Native.Nat.{ℕ}
use native.Mathlib.Omega.{arith}
use lib.Dec.{ltb}
use lib.ListN.{length}
use Rattle.rules.specs.declared.kinds.Bus.{Bus}
use Rattle.rules.specs.declared.requests.Request.{Request}
use Rattle.rules.specs.Profile.{frame_in_range}
use Rattle.rules.specs.Master.{Encoding, unmade, request_bytes, argument_wrong, encoded}
use Rattle.laws.proofs.RequestLaws.{Right, argument_wrong_right}

pub record Made (bus : Bus) (M : ℕ) (r : Request) (to : ℕ) (bytes : List ℕ) (room : ℕ) : Type 0 where
  pub bytes_are : (encoded bus M r to bytes room).bytes ≡ request_bytes bus r to bytes
  pub right : Right bus M r to bytes

pub encoded-made : (bus : Bus) (M : ℕ) (r : Request) (to : ℕ) (bytes : List ℕ) (room : ℕ) → (encoded bus M r to bytes room).number ≡ 0
    → Made bus M r to bytes room
unfolding encoded
encoded-made bus M r to bytes room e =
    let parts =
    go (frame_in_range M) (argument_wrong bus M r to bytes) (ltb room (length (request_bytes bus r to bytes)))
    (request_bytes bus r to bytes) e in
    record { bytes_are = parts.0; right = argument_wrong_right bus M r to bytes parts.1 }
  where
    answer : Bool → Bool → Bool → List ℕ → Encoding
    answer range wrong short made =
        cond (not range) (unmade 2) (cond wrong (unmade 7) (cond short (unmade 6) (record { number = 0; bytes = made })))

    go : (range wrong short : Bool) (made : List ℕ) → (answer range wrong short made).number ≡ 0
        → ((answer range wrong short made).bytes ≡ made) × (wrong ≡ false)
    go false wrong short made z = absurd (omega arith)
    go true true short made z = absurd (omega arith)
    go true false true made z = absurd (omega arith)
    go true false false made z = (refl, refl)
