-- The profile, the flash and the calls that the wrong boards are tried on.
use mathlib.Core.List.{List, [], ◌∷◌}
use Prim.Native.Nat.{ℕ, ◌≤◌}
use native.Mathlib.Omega.{arith}
use lib.ListN.{replicate}
use Rattle.rules.specs.declared.kinds.Bus.{Bus}
use Rattle.rules.specs.Profile.{Profile}
use Rattle.rules.specs.Frames.{request}
use Rattle.ledger.specs.Calls.{Call, Frame}

-- M = 128, a page, and a working flash of this size at 0
abbrev pub paged : ℕ → Bus → ℕ → Profile
paged page bus size = record {
  bus = bus;
  longest = 128;
  page = page;
  size = size;
  offset = 0;
  hardware = 1;
  compatible = 1;
  actual = 1;
  version = 1;
  serial = [];
}

-- with a page of 64 bytes
abbrev pub small : Bus → ℕ → Profile
small = paged 64

-- a flash of zeros
abbrev pub zeros : ℕ → List ℕ
zeros n = replicate n 0

-- a request to address 8
abbrev pub sent : Bus → ℕ → List ℕ → Call
sent bus code arguments = Frame 8 (request bus 8 code arguments) 128

-- bytes written at an address below 256
abbrev pub write : Bus → ℕ → List ℕ → Call
write bus address bytes = sent bus 0x06 (0 ∷ address ∷ bytes)

abbrev pub finalize : Bus → Call
finalize bus = sent bus 0x07 []

-- a flash and a reply buffer have room
pub room : 64 ≤ 64
room = omega arith

pub buffer : 128 ≤ 128
buffer = omega arith
