-- Document 01, "Frames and check sums": requests and replies as bytes on both buses, the addresses of a board, the verdict on a frame.
use Rattle.std.specs.Prelude.{Bool, true, false, cond, not, ◌&&◌, ◌||◌, List, [], ◌∷◌, ◌++◌, ℕ, ◌+◌, ◌/◌, ◌%◌, ◌*◌, eqb, leb, ltb, length, drop, get_or}
use Rattle.rules.specs.declared.kinds.Bus.{Bus}
use Rattle.rules.specs.declared.kinds.Bus.TheVariants.{I2c, Rs485}
use Rattle.rules.specs.declared.kinds.Address.{Address}
use Rattle.rules.specs.declared.kinds.Address.TheVariants.{DefaultRange, Own}
use Rattle.rules.specs.declared.kinds.Reason.TheVariants.{Running, Short, Long, WrongSum, Foreign, OtherGeneral}
use Rattle.rules.specs.declared.kinds.Verdict.{Verdict}
use Rattle.rules.specs.declared.kinds.Verdict.TheVariants.{Reset, ResetAddress, Ignored, BadTransfer, BadSum, Command}
use Rattle.rules.specs.Bytes.{same}
use Rattle.rules.specs.CheckSums.{sum_length, sealed, unsealed, sum_right}

-- what stands before the command or the status: RS485 the address
abbrev pub header : Bus → ℕ → List ℕ
header I2c address = []
header Rs485 address = address ∷ []

abbrev pub header_length : Bus → ℕ
header_length I2c = 0
header_length Rs485 = 1

-- a request with no arguments, the shortest there is: 2 bytes on I²C, 4 on RS485
abbrev pub shortest_request : Bus → ℕ
shortest_request bus = header_length bus + 1 + sum_length bus

-- a reply with no results, the shortest there is: 3 bytes on I²C, 5 on RS485
abbrev pub shortest_reply : Bus → ℕ
shortest_reply bus = header_length bus + 2 + sum_length bus

-- numbers of two bytes are big-endian
abbrev pub two_bytes : ℕ → List ℕ
two_bytes n = n / 256 ∷ n % 256 ∷ []

-- the number that two bytes from a place on stand for
abbrev pub number_at : List ℕ → ℕ → ℕ
number_at bytes place = get_or bytes place 0 * 256 + get_or bytes (place + 1) 0

-- Request: (RS485: address,) command, arguments, check sum
unfoldable pub request : Bus → ℕ → ℕ → List ℕ → List ℕ
request bus address code arguments = sealed bus (header bus address ++ code ∷ arguments)

-- Reply: (RS485: the request's address,) status, number of results, results, check sum
unfoldable pub reply : Bus → ℕ → ℕ → List ℕ → List ℕ
reply bus address status results = sealed bus (header bus address ++ status ∷ length results ∷ results)

-- the command of a request
abbrev pub command_of : Bus → List ℕ → ℕ
command_of bus frame = get_or frame (header_length bus) 0

-- its arguments
abbrev pub arguments_of : Bus → List ℕ → List ℕ
arguments_of bus frame = drop (header_length bus + 1) (unsealed bus frame)

-- the first general call of each pair: default range again
unfoldable pub reset_address_frame : Bus → List ℕ
reset_address_frame I2c = 0x04 ∷ []
reset_address_frame Rs485 = sealed Rs485 (0 ∷ 0x44 ∷ [])

-- the second: reset
unfoldable pub reset_frame : Bus → List ℕ
reset_frame I2c = 0x06 ∷ []
reset_frame Rs485 = sealed Rs485 (0 ∷ 0x46 ∷ [])

-- where a frame is sent: I²C the address beside it, RS485 its first byte
abbrev pub destination : Bus → ℕ → List ℕ → ℕ
destination I2c address frame = address
destination Rs485 address frame = get_or frame 0 0

-- I²C addresses have 7 bits: 128 and above are foreign
abbrev pub address_fits : Bus → ℕ → Bool
address_fits I2c a = ltb a 128
address_fits Rs485 a = true

-- Default range: 8 to 15
abbrev pub answers_to : Address → ℕ → Bool
answers_to DefaultRange a = leb 8 a && leb a 15
answers_to (Own b) a = eqb a b

-- a destination is this board; address 0 is always the general call
unfoldable pub addressed : Bus → Address → ℕ → Bool
addressed bus own a = not (eqb a 0) && (address_fits bus a && answers_to own a)

-- a frame that is neither of the two general calls, to a board that is not running
unfoldable pub framing : Bus → ℕ → Address → ℕ → List ℕ → Verdict
framing I2c M own a f =
    cond (eqb a 0) (Ignored OtherGeneral)
    (cond (not (addressed I2c own a)) (Ignored (Foreign I2c))
    (cond (ltb (length f) (shortest_request I2c) || ltb M (length f)) BadTransfer
    (cond (not (sum_right I2c f)) BadSum Command)))
framing Rs485 M own a f =
    cond (ltb (length f) (shortest_request Rs485)) (Ignored Short)
    (cond (ltb M (length f)) (Ignored Long)
    (cond (not (sum_right Rs485 f)) (Ignored WrongSum)
    (cond (eqb (get_or f 0 0) 0) (Ignored OtherGeneral)
    (cond (not (addressed Rs485 own (get_or f 0 0))) (Ignored (Foreign Rs485)) Command))))

-- a general call is sent to address 0 and has its exact form
abbrev pub is_general : Bus → ℕ → List ℕ → List ℕ → Bool
is_general bus a f form = eqb (destination bus a f) 0 && same f form

-- what a received frame is; while running only the reset counts
unfoldable pub verdict : Bus → ℕ → Bool → Address → ℕ → List ℕ → Verdict
verdict bus M running own a f =
    cond (is_general bus a f (reset_frame bus)) Reset
    (cond running (Ignored Running)
    (cond (is_general bus a f (reset_address_frame bus)) ResetAddress
    (framing bus M own a f)))

-- silence that means no dead board: the frame changes nothing and gets no reply
abbrev pub ignored : Verdict → Bool
ignored Reset = false
ignored ResetAddress = false
ignored (Ignored reason) = true
ignored BadTransfer = false
ignored BadSum = false
ignored Command = false

-- a well-framed command to this board
abbrev pub is_command : Verdict → Bool
is_command Reset = false
is_command ResetAddress = false
is_command (Ignored reason) = false
is_command BadTransfer = false
is_command BadSum = false
is_command Command = true
