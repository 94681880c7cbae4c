-- Document 01, "The master": the request encoder, the reply decoder, a reply that is read twice, and the version rule; W4's reset for a
-- running application. Total over any bus, M, request, reply, version and output length.
use Rattle.std.specs.Prelude.{Result, Ok, Err, Bool, false, cond, not, ◌&&◌, ◌||◌, List, [], ◌∷◌, ◌++◌, ℕ, ◌+◌, ◌-◌, eqb, leb, ltb, length, take, drop, get_or}
use Rattle.rules.specs.declared.kinds.Bus.{Bus}
use Rattle.rules.specs.declared.kinds.Bus.TheVariants.{I2c, Rs485}
use Rattle.rules.specs.declared.requests.Request.{Request}
use Rattle.rules.specs.declared.requests.Request.TheVariants.{Plain, SetAddress, Write, Read, ResetAddress, Reset}
use Rattle.rules.specs.declared.requests.EncodeError.{EncodeError}
use Rattle.rules.specs.declared.requests.EncodeError.TheVariants.{FrameOutOfRange, OutputTooShort, ArgumentOutOfRange}
use Rattle.rules.specs.declared.requests.Decoded.{Decoded}
use Rattle.rules.specs.declared.requests.Decoded.TheVariants.{Reply, NotServed, TooShort, SumWrong, OtherAddress, LengthWrong}
use Rattle.rules.specs.declared.requests.Decoded.TheVariants.{StatusUnknown, ResultsMissing}
use Rattle.rules.specs.declared.requests.Which.{Which}
use Rattle.rules.specs.declared.requests.Which.TheVariants.{First, Second, Neither}
use Rattle.rules.specs.declared.requests.Version.{Version}
use Rattle.rules.specs.declared.requests.VersionError.{VersionError}
use Rattle.rules.specs.declared.requests.VersionError.TheVariants.{ApplicationRunning, Unknown}
use Rattle.rules.specs.declared.requests.ResetError.{ResetError}
use Rattle.rules.specs.declared.requests.ResetError.TheVariants as resets
use Rattle.rules.specs.Profile.{frame_in_range}
use Rattle.rules.specs.CheckSums.{sum_right}
use Rattle.rules.specs.Frames.{header_length, shortest_request, shortest_reply, two_bytes, request, reset_address_frame, reset_frame}
use Rattle.rules.specs.Responses.{ok}
use Rattle.rules.specs.Commands.{served, length_allowed, reserved}

-- the encoder

-- what the encoder answers and leaves: its number, and the request's bytes (none unless the number is 0)
pub record Encoding : Type 0 where
  pub number : ℕ
  pub bytes : List ℕ

-- the number of each of its answers
abbrev pub encoded_number : Result ℕ EncodeError → ℕ
encoded_number (Ok k) = 0
encoded_number (Err FrameOutOfRange) = 2
encoded_number (Err OutputTooShort) = 6
encoded_number (Err ArgumentOutOfRange) = 7

-- how many bytes of the lent output an answer says were made
abbrev pub encoded_length : Result ℕ EncodeError → ℕ
encoded_length (Ok k) = k
encoded_length (Err e) = 0

-- what a request asks: a command with its argument bytes, or one of the two general calls
pub data Instruction : Type 0 where
  Commands : ℕ → List ℕ → Instruction
  AddressReset : Instruction
  BoardReset : Instruction

-- the instruction of each request; the data bytes are a write's
abbrev pub instruction_of : Request → List ℕ → Instruction
instruction_of (Plain code) bytes = Commands code []
instruction_of (SetAddress address hardware) bytes = Commands 0x01 (address ∷ hardware ∷ [])
instruction_of (Write address) bytes = Commands 0x06 (two_bytes address ++ bytes)
instruction_of (Read address n) bytes = Commands 0x08 (two_bytes address ++ n ∷ [])
instruction_of ResetAddress bytes = AddressReset
instruction_of Reset bytes = BoardReset

-- its bytes; the general calls have no destination
abbrev pub instruction_bytes : Bus → ℕ → Instruction → List ℕ
instruction_bytes bus destination (Commands code arguments) = request bus destination code arguments
instruction_bytes bus destination AddressReset = reset_address_frame bus
instruction_bytes bus destination BoardReset = reset_frame bus

-- the bytes of a request
unfoldable pub request_bytes : Bus → Request → ℕ → List ℕ → List ℕ
request_bytes bus r destination bytes = instruction_bytes bus destination (instruction_of r bytes)

-- a bus address past 255, on I²C past 127
abbrev pub address_over : Bus → ℕ → Bool
address_over I2c a = ltb 127 a
address_over Rs485 a = ltb 255 a

-- a flash address over 65,535
abbrev pub flash_address_over : ℕ → Bool
flash_address_over a = ltb 65535 a

-- a command not served with n argument bytes, a request over M, a command to destination 0 or over the bus's addresses
unfoldable pub command_wrong : Bus → ℕ → ℕ → ℕ → ℕ → Bool
command_wrong bus M destination code n =
    not (served code && length_allowed code n)
    || (ltb M (shortest_request bus + n)
    || (eqb destination 0 || address_over bus destination))

-- so for the command that an instruction has; the general calls have none
abbrev pub instruction_wrong : Bus → ℕ → ℕ → Instruction → Bool
instruction_wrong bus M destination (Commands code arguments) = command_wrong bus M destination code (length arguments)
instruction_wrong bus M destination AddressReset = false
instruction_wrong bus M destination BoardReset = false

-- a new bus address over its range or reserved (W1), a hardware type over 255
abbrev pub set_address_wrong : Bus → ℕ → ℕ → Bool
set_address_wrong bus address hardware = address_over bus address || (reserved bus address || ltb 255 hardware)

-- a read longer than a reply holds
abbrev pub read_wrong : Bus → ℕ → ℕ → ℕ → Bool
read_wrong bus M address n = flash_address_over address || ltb (M - shortest_reply bus) n

-- the numbers of each request out of range
abbrev pub numbers_wrong : Bus → ℕ → Request → Bool
numbers_wrong bus M (Plain code) = false
numbers_wrong bus M (SetAddress address hardware) = set_address_wrong bus address hardware
numbers_wrong bus M (Write address) = flash_address_over address
numbers_wrong bus M (Read address n) = read_wrong bus M address n
numbers_wrong bus M ResetAddress = false
numbers_wrong bus M Reset = false

-- 7: request argument out of range: in the command that it asks for, or in its own numbers
unfoldable pub argument_wrong : Bus → ℕ → Request → ℕ → List ℕ → Bool
argument_wrong bus M r destination bytes = instruction_wrong bus M destination (instruction_of r bytes) || numbers_wrong bus M r

-- nothing is made
abbrev pub unmade : ℕ → Encoding
unmade number = record { number = number; bytes = [] }

-- the encoder tests 2 (M only), 7, 6
unfoldable pub encoded : Bus → ℕ → Request → ℕ → List ℕ → ℕ → Encoding
encoded bus M r destination bytes outputLength =
    cond (not (frame_in_range M)) (unmade 2)
    (cond (argument_wrong bus M r destination bytes) (unmade 7)
    (cond (ltb outputLength (length (request_bytes bus r destination bytes))) (unmade 6)
    (record { number = 0; bytes = request_bytes bus r destination bytes })))

-- the decoder

-- what the decoder answers: its number, the status, and where the results lie in the reply (zeros unless the number is 0)
pub record Decoding : Type 0 where
  pub number : ℕ
  pub status : ℕ
  pub start : ℕ
  pub len : ℕ

-- no result
abbrev pub unread : ℕ → Decoding
unread number = record { number = number; status = 0; start = 0; len = 0 }

-- the number and the values of each of its answers
abbrev pub decoded_as : Decoded → Decoding
decoded_as (Reply status start len) = record { number = 0; status = status; start = start; len = len }
decoded_as NotServed = unread 7
decoded_as TooShort = unread 8
decoded_as SumWrong = unread 9
decoded_as OtherAddress = unread 10
decoded_as LengthWrong = unread 11
decoded_as StatusUnknown = unread 12
decoded_as ResultsMissing = unread 13

-- Fixed parts: revision 1; version, finalize and M 2; hardware info 5; read the length asked; any other 0
unfoldable pub fixed_part : ℕ → ℕ → ℕ
fixed_part code asked =
    cond (eqb code 0x00) 2
    (cond (eqb code 0x03) 5
    (cond (eqb code 0x07) 2
    (cond (eqb code 0x08) asked
    (cond (eqb code 0x09) 1
    (cond (eqb code 0x0c) 2 0)))))

-- OK without all of the command's fixed part
abbrev pub results_missing : ℕ → ℕ → ℕ → ℕ → Bool
results_missing code asked status n = eqb status ok && ltb n (fixed_part code asked)

-- a reply of so many bytes holds n results: more bytes may follow its CRC on I²C, none on RS485
abbrev pub length_right : Bus → ℕ → ℕ → Bool
length_right I2c n long = leb (n + shortest_reply I2c) long
length_right Rs485 n long = eqb (n + shortest_reply Rs485) long

-- a reply from another address; on I²C the reply holds none
abbrev pub from_other : Bus → ℕ → List ℕ → Bool
from_other I2c address reply = false
from_other Rs485 address reply = not (eqb (get_or reply 0 0) address)

-- the status and the length byte of a reply
abbrev pub status_of : Bus → List ℕ → ℕ
status_of bus reply = get_or reply (header_length bus) 0

abbrev pub count_of : Bus → List ℕ → ℕ
count_of bus reply = get_or reply (header_length bus + 1) 0

-- a reply whose length byte fits it: the decoder tests 9, 10, 12, 13
unfoldable pub opened : Bus → ℕ → ℕ → ℕ → List ℕ → Decoding
opened bus code address asked reply =
    cond (not (sum_right bus (take (count_of bus reply + shortest_reply bus) reply))) (unread 9)
    (cond (from_other bus address reply) (unread 10)
    (cond (ltb 5 (status_of bus reply)) (unread 12)
    (cond (results_missing code asked (status_of bus reply) (count_of bus reply)) (unread 13)
    (record { number = 0; status = status_of bus reply; start = header_length bus + 2; len = count_of bus reply }))))

-- decoding: 7 for an unserved command, then 8, 11, then the others
unfoldable pub decoded : Bus → ℕ → ℕ → ℕ → List ℕ → Decoding
decoded bus code address asked reply =
    cond (not (served code)) (unread 7)
    (cond (ltb (length reply) (shortest_reply bus)) (unread 8)
    (cond (not (length_right bus (count_of bus reply) (length reply))) (unread 11)
    (opened bus code address asked reply)))

-- a reply that is read twice, on I²C, where the address is not looked at

abbrev pub decoded_read : ℕ → ℕ → List ℕ → Decoding
decoded_read code asked reply = decoded I2c code 0 asked reply

-- the result bytes of a decoded reply
abbrev pub results_in : Decoding → List ℕ → List ℕ
results_in d reply = take d.len (drop d.start reply)

-- a part of the read that decodes, of the first if both do; an empty part if neither does
unfoldable pub result_bytes : ℕ → ℕ → List ℕ → List ℕ → List ℕ
result_bytes code asked first second =
    cond (eqb (decoded_read code asked first).number 0) (results_in (decoded_read code asked first) first)
    (cond (eqb (decoded_read code asked second).number 0) (results_in (decoded_read code asked second) second) [])

-- which case it was: read 1, read 2, or 0 for neither
unfoldable pub which_read : ℕ → ℕ → List ℕ → List ℕ → ℕ
which_read code asked first second =
    cond (eqb (decoded_read code asked first).number 0) 1
    (cond (eqb (decoded_read code asked second).number 0) 2 0)

-- the number of the read that an answer names
abbrev pub read_number : Which → ℕ
read_number First = 1
read_number Second = 2
read_number Neither = 0

-- the version rule

-- what the version rule answers: its number, and the version that it counts as (zeros unless the number is 0)
pub record Ruled : Type 0 where
  pub number : ℕ
  pub major : ℕ
  pub minor : ℕ

-- W4: application running; the papers give it no number
abbrev pub application_running : ℕ
application_running = 40

-- the number and the values of each of its answers
abbrev pub ruled_as : Result Version VersionError → Ruled
ruled_as (Ok v) = record { number = 0; major = v.major; minor = v.minor }
ruled_as (Err ApplicationRunning) = record { number = application_running; major = 0; minor = 0 }
ruled_as (Err Unknown) = record { number = 14; major = 0; minor = 0 }

-- a higher minor counts as the highest known
abbrev pub capped : ℕ → ℕ → ℕ
capped highest minor = cond (ltb highest minor) highest minor

-- known are minors 0 and 1 of major 1, 0 to 2 of major 2; exactly 0.0 is a running application's; any other is 14
unfoldable pub version_rule : ℕ → ℕ → Ruled
version_rule major minor =
    cond (eqb major 1) (record { number = 0; major = 1; minor = capped 1 minor })
    (cond (eqb major 2) (record { number = 0; major = 2; minor = capped 2 minor })
    (cond (eqb major 0 && eqb minor 0) (record { number = application_running; major = 0; minor = 0 })
    (record { number = 14; major = 0; minor = 0 })))

-- the reset for a running application

-- the number of each of its answers
abbrev pub reset_number : Result ℕ ResetError → ℕ
reset_number (Ok k) = 0
reset_number (Err resets.VersionKnown) = 1
reset_number (Err resets.FrameOutOfRange) = 2
reset_number (Err resets.VersionUnknown) = 14
reset_number (Err resets.OutputTooShort) = 6

-- how many bytes of the lent output an answer says were made
abbrev pub reset_length : Result ℕ ResetError → ℕ
reset_length (Ok k) = k
reset_length (Err e) = 0

-- W4: 2 (M only), 14, 1 for a known version; for a running application the encoder's general-call reset, with its 6 and 0
unfoldable pub running_reset : Bus → ℕ → ℕ → ℕ → ℕ → Encoding
running_reset bus M major minor outputLength =
    cond (not (frame_in_range M)) (unmade 2)
    (cond (eqb (version_rule major minor).number 14) (unmade 14)
    (cond (eqb (version_rule major minor).number 0) (unmade 1)
    (encoded bus M Reset 0 [] outputLength)))
