-- From what the calls that write a request promise to what their calls of the boundary do, on a bus that there is.
use mathlib.Core.Path.{◌≡◌, ◌∙◌}
use mathlib.Core.List.{List}
use Prim.Native.Nat.{ℕ}
use lib.ListN.{length}
use borrow.Author.Tests.{le-ltb}
use Rattle.rules.specs.declared.kinds.Bus.{Bus}
use Rattle.rules.specs.declared.requests.Request.{Request}
use Rattle.rules.specs.Master.{encoded, running_reset}
use Rattle.encoder.specs.Calls.{Encodes}
use Rattle.fields.specs.Fields.{clipped}
use Rattle.fields.proofs.Clipping.{version_rule-clipped}
use Rattle.rules.specs.Buses.{bus_number}
use Rattle.profile_bytes.proofs.BusLaws.{number_most, bus_of_number}
use Rattle.childbus_requests.specs.RequestBytes.{EncodedLeft, encoded_left, reset_left}

module _ (bus longest : ℕ) (out : List ℕ) (b : Bus) {after : List ℕ} {number made n m : ℕ} (numbered : bus_number b ≡ bus)
    (n-is : n ≡ number) (m-is : m ≡ made) where
  pub encoded-left : (request : Request) (destination : ℕ) (bytes : List ℕ)
      → Encodes number made (encoded b longest request destination bytes (length out)) out after
      → ◌≡◌ {A = EncodedLeft} (record { number = n; made = m; out = after }) (encoded_left bus longest request destination bytes out)
  unfolding encoded_left
  encoded-left request destination bytes e =
      rw (le-ltb 1 bus (number_most b numbered), n-is ∙ e.number_is, m-is ∙ e.length_is, e.output_is, bus_of_number b numbered)

  -- major and minor are clipped to a byte
  pub reset_left_lem : (major minor : ℕ) {x y : ℕ} → x ≡ clipped major → y ≡ clipped minor
      → Encodes number made (running_reset b longest x y (length out)) out after
      → ◌≡◌ {A = EncodedLeft} (record { number = n; made = m; out = after }) (reset_left bus longest major minor out)
  unfolding running_reset reset_left
  reset_left_lem major minor x-is y-is e =
      rw (
        le-ltb 1 bus (number_most b numbered),
        n-is ∙ e.number_is,
        m-is ∙ e.length_is,
        e.output_is,
        bus_of_number b numbered,
        x-is,
        y-is,
        version_rule-clipped major minor,
      )
