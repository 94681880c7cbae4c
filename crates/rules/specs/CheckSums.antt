-- Document 01, "Frames and check sums": CRC-8 and CRC-16/Modbus by one definition over the algorithm, bit by bit.
use Rattle.std.specs.Prelude.{Bool, cond, List, [], ◌∷◌, ◌++◌, ℕ, zero, suc, ◌-◌, ◌*◌, ◌/◌, ◌%◌, eqb, length, take, drop}
use Rattle.std.specs.Int.Bits.{bit_xor}
use Rattle.rules.specs.declared.kinds.Bus.{Bus}
use Rattle.rules.specs.declared.kinds.Bus.TheVariants.{I2c, Rs485}
use Rattle.rules.specs.Bytes.{same, low_first}

-- which bit falls out of a register, the register without it, the polynomial that the bit adds, and the register at the start
pub record Algorithm : Type 0 where
  pub out : ℕ → Bool
  pub rest : ℕ → ℕ
  pub poly : ℕ
  pub start : ℕ

-- most significant bit first, in a register of 8 bits
abbrev pub most_first : ℕ → ℕ → Algorithm
most_first poly start = record { out = λ r. eqb (r / 128 % 2) 1; rest = λ r. r * 2 % 256; poly = poly; start = start }

-- least significant bit first, with the polynomial reflected
abbrev pub least_first : ℕ → ℕ → Algorithm
least_first poly start = record { out = λ r. eqb (r % 2) 1; rest = λ r. r / 2; poly = poly; start = start }

-- f, n times
abbrev pub times : ℕ → (ℕ → ℕ) → ℕ → ℕ
times zero f x = x
times (suc n) f x = f (times n f x)

-- the register after one bit
unfoldable pub bit : Algorithm → ℕ → ℕ
bit k r = cond (k.out r) (bit_xor (k.rest r) k.poly) (k.rest r)

-- the register after one byte
unfoldable pub byte : Algorithm → ℕ → ℕ → ℕ
byte k r b = times 8 (bit k) (bit_xor r b)

-- the register after the bytes of a list
unfoldable pub run : Algorithm → ℕ → List ℕ → ℕ
run k r [] = r
run k r (b ∷ bs) = run k (byte k r b) bs

-- the check sum of a list of bytes; no output XOR
abbrev pub crc : Algorithm → List ℕ → ℕ
crc k bs = run k k.start bs

-- CRC-8: start 0xFF, most significant bit first, polynomial x^8 + x^2 + x + 1
abbrev pub crc8 : Algorithm
crc8 = most_first 0x07 0xFF

-- CRC-16: Modbus, reflected polynomial 0xA001, start 0xFFFF
abbrev pub crc16 : Algorithm
crc16 = least_first 0xA001 0xFFFF

-- the check sum's bytes: CRC-8; CRC-16 low byte first
unfoldable pub sum : Bus → List ℕ → List ℕ
sum I2c bs = crc crc8 bs ∷ []
sum Rs485 bs = low_first (crc crc16 bs)

-- how many bytes that is
abbrev pub sum_length : Bus → ℕ
sum_length I2c = 1
sum_length Rs485 = 2

-- bytes and then their check sum
unfoldable pub sealed : Bus → List ℕ → List ℕ
sealed bus bs = bs ++ sum bus bs

-- a frame without its check sum
abbrev pub unsealed : Bus → List ℕ → List ℕ
unsealed bus frame = take (length frame - sum_length bus) frame

-- a frame ends in the check sum of what comes before
unfoldable pub sum_right : Bus → List ℕ → Bool
sum_right bus frame = same (drop (length frame - sum_length bus) frame) (sum bus (unsealed bus frame))
