-- The profile in 36 bytes: which bytes hold one, which profile they say, and the bytes of a profile.
use Rattle.std.specs.Prelude.{Bool, cond, ◌&&◌, List, [], ◌∷◌, ◌++◌, ℕ, eqb, leb, length, get_or, replicate}
use Rattle.rules.specs.declared.kinds.Bus.{Bus}
use Rattle.rules.specs.declared.kinds.Bus.TheVariants.{I2c, Rs485}
use Rattle.rules.specs.Profile.{largest_page}
use Rattle.profile.specs.declared.Profile.{Profile}
use Rattle.byte_slices.specs.Four.{four_at, four_bytes}
use Rattle.fields.specs.Fields.{part}

-- `PROFILE_BYTES`
abbrev pub profile_size : ℕ
profile_size = 36

-- byte 0 is a bus, 0 or 1, and byte 6 a page, 0 or 1; bytes past the 36 mean nothing
abbrev pub profile_held : List ℕ → Bool
profile_held b = leb profile_size (length b) && (leb (get_or b 0 0) 1 && leb (get_or b 6 0) 1)

-- 0 I²C, 1 RS485
abbrev pub bus_of : ℕ → Bus
bus_of x = cond (eqb x 0) I2c Rs485

abbrev pub bus_byte : Bus → ℕ
bus_byte I2c = 0
bus_byte Rs485 = 1

-- byte 6: 0 is a page of 64 bytes, 1 of 128
abbrev pub page_of : ℕ → ℕ
page_of x = cond (eqb x 0) 64 largest_page

abbrev pub page_byte : ℕ → ℕ
page_byte page = cond (eqb page 64) 0 1

-- byte 7 means nothing
abbrev pub profile_said : List ℕ → Profile
profile_said b = record {
  bus = bus_of (get_or b 0 0);
  longest = four_at b 8;
  page = page_of (get_or b 6 0);
  size = four_at b 12;
  offset = four_at b 16;
  hardware = get_or b 1 0;
  compatible = get_or b 2 0;
  actual = get_or b 3 0;
  version = get_or b 4 0;
  serial = part b 20 16;
  seriallen = get_or b 5 0;
}

-- what bytes that hold no profile read as: it is out of range
abbrev pub no_profile : Profile
no_profile = record {
  bus = I2c;
  longest = 0;
  page = 0;
  size = 0;
  offset = 0;
  hardware = 0;
  compatible = 0;
  actual = 0;
  version = 0;
  serial = replicate 16 0;
  seriallen = 0;
}

-- any bytes read as a profile
unfoldable pub profile_at : List ℕ → Profile
profile_at b = cond (profile_held b) (profile_said b) no_profile

-- the bytes that a caller fills in
unfoldable pub profile_bytes : Profile → List ℕ
profile_bytes p =
    (bus_byte p.bus ∷ p.hardware ∷ p.compatible ∷ p.actual ∷ p.version ∷ p.seriallen ∷ page_byte p.page ∷ 0 ∷ [])
    ++ four_bytes p.longest
    ++ four_bytes p.size
    ++ four_bytes p.offset
    ++ p.serial
