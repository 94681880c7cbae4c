-- The 64-bit FNV-1a hash.
use Rattle.std.specs.Prelude.{ℕ, ◌*◌, ◌%◌, ◌^◌, List, bit_xor}
use Rattle.std.specs.List.{fold}

-- the offset basis and the prime that its authors publish for 64 bits
abbrev pub basis : ℕ
basis = 0xcbf29ce484222325

abbrev pub prime : ℕ
prime = 0x100000001b3

-- the hash one byte further
abbrev pub hashed_byte : ℕ → ℕ → ℕ
hashed_byte h b = bit_xor h b * prime % 2 ^ 64

-- the hash after the bytes of a list
abbrev pub hashed : ℕ → List ℕ → ℕ
hashed h bs = fold hashed_byte h bs
