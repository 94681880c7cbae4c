-- The master's requests over bytes: number, single result, and every byte of the output, for any numbers of 32 bits and any bytes of any
-- length.
use Rattle.std.specs.Prelude.{cond, List, ℕ, eqb, ltb, length}
use Rattle.rules.specs.declared.requests.Request.{Request}
use Rattle.rules.specs.declared.requests.Request.TheVariants.{Plain, SetAddress, Write, Read, ResetAddress, Reset}
use Rattle.rules.specs.Numbers.{laid}
use Rattle.rules.specs.Master.{Encoding, unmade, encoded, running_reset}
use Rattle.profile_bytes.specs.ProfileBytes.{bus_of}

-- childbus_encode and childbus_general

-- the request that a command's code and two arguments say; what it does not have is not looked at
unfoldable pub request_of : ℕ → ℕ → ℕ → Request
request_of code a b =
    cond (eqb code 0x01) (SetAddress a b)
    (cond (eqb code 0x06) (Write a)
    (cond (eqb code 0x08) (Read a b) (Plain code)))

-- 0 reset address, anything else reset
abbrev pub general_of : ℕ → Request
general_of reset = cond (eqb reset 0) ResetAddress Reset

pub record EncodedLeft : Type 0 where
  pub number : ℕ
  pub made : ℕ
  pub out : List ℕ

abbrev pub encoded_by : Encoding → List ℕ → EncodedLeft
encoded_by e out = record { number = e.number; made = length e.bytes; out = laid e.bytes out }

-- a bus above 1 is number 2
unfoldable pub encoded_left : ℕ → ℕ → Request → ℕ → List ℕ → List ℕ → EncodedLeft
encoded_left bus longest request destination bytes out =
    encoded_by (cond (ltb 1 bus) (unmade 2) (encoded (bus_of bus) longest request destination bytes (length out))) out

-- childbus_reset_running

unfoldable pub reset_left : ℕ → ℕ → ℕ → ℕ → List ℕ → EncodedLeft
reset_left bus longest major minor out =
    encoded_by (cond (ltb 1 bus) (unmade 2) (running_reset (bus_of bus) longest major minor (length out))) out
