-- Document 01, "Commands": the table of argument lengths, and what each command does.
use Rattle.std.specs.Prelude.{Bool, true, cond, not, ◌&&◌, ◌||◌, List, [], ◌∷◌, ℕ, ◌+◌, ◌-◌, ◌%◌, eqb, leb, length, take, drop, get_or}
use Rattle.rules.specs.declared.kinds.Bus.{Bus}
use Rattle.rules.specs.declared.kinds.Bus.TheVariants.{I2c, Rs485}
use Rattle.rules.specs.declared.kinds.Address.TheVariants.{Own}
use Rattle.rules.specs.Profile.{Profile}
use Rattle.rules.specs.State.{State, Upload, fresh_upload, with_address, with_running, with_upload}
use Rattle.rules.specs.Responses.{Reply, NoReply, Acted, replying, ok, command_not_supported, invalid_arguments}
use Rattle.rules.specs.Frames.{two_bytes, number_at, shortest_reply}
use Rattle.rules.specs.Commit.{Progress, taken_all, finalized}

-- the argument table, a row for each code 0x00 to 0x0e: served, shortest, longest
abbrev pub argument_rows : List (List ℕ)
argument_rows =
    (1 ∷ 0 ∷ 0 ∷ [])
    ∷ (1 ∷ 2 ∷ 2 ∷ [])
    ∷ (0 ∷ 0 ∷ 0 ∷ [])
    ∷ (1 ∷ 0 ∷ 0 ∷ [])
    ∷ (1 ∷ 0 ∷ 0 ∷ [])
    ∷ (1 ∷ 0 ∷ 0 ∷ [])
    ∷ (1 ∷ 2 ∷ 254 ∷ [])
    ∷ (1 ∷ 0 ∷ 0 ∷ [])
    ∷ (1 ∷ 3 ∷ 3 ∷ [])
    ∷ (1 ∷ 0 ∷ 0 ∷ [])
    ∷ (0 ∷ 0 ∷ 0 ∷ [])
    ∷ (0 ∷ 0 ∷ 0 ∷ [])
    ∷ (1 ∷ 0 ∷ 0 ∷ [])
    ∷ (0 ∷ 0 ∷ 0 ∷ [])
    ∷ (0 ∷ 0 ∷ 0 ∷ [])
    ∷ []

-- what the table has for a code; 0 for a code that it has no row for
unfoldable pub tabled : ℕ → ℕ → ℕ
tabled code column = get_or (get_or argument_rows code []) column 0

-- the command is served here
abbrev pub served : ℕ → Bool
served code = eqb (tabled code 0) 1

-- its argument length is allowed
abbrev pub length_allowed : ℕ → ℕ → Bool
length_allowed code n = leb (tabled code 1) n && leb n (tabled code 2)

-- the address that set address takes: on I²C with its top bit dropped
abbrev pub address_taken : Bus → ℕ → ℕ
address_taken I2c a = a % 128
address_taken Rs485 a = a

-- W1, reserved addresses: 0 to 7 and 120 to 127 on I²C, 0 and 248 to 255 on RS485
abbrev pub reserved : Bus → ℕ → Bool
reserved I2c a = leb a 7 || (leb 120 a && leb a 127)
reserved Rs485 a = eqb a 0 || (leb 248 a && leb a 255)

-- set address is for boards of this type; type 0 is any
abbrev pub type_matches : Profile → ℕ → Bool
type_matches p asked = eqb asked p.hardware || eqb asked 0

-- 0x01 set address: address, type; no reply to another type, then INVALID_ARGUMENTS for a reserved address
unfoldable pub set_address : Profile → State → List ℕ → List ℕ → Acted
set_address p s args d =
    let own : ℕ = address_taken p.bus (get_or args 0 0) in
    cond (not (type_matches p (get_or args 1 0))) (record { response = NoReply; state = s; flash = d })
    (cond (reserved p.bus own) (replying s d invalid_arguments [])
    (replying (with_address s (Own own)) d ok []))

-- 0x03 hardware info: type and compatible revision, bootloader version, two-byte S
abbrev pub hardware_info : Profile → List ℕ
hardware_info p = p.hardware ∷ p.compatible ∷ p.version ∷ two_bytes p.size

-- 0x04: the serial's bytes, COMMAND_NOT_SUPPORTED if none
abbrev pub serial_number : Profile → State → List ℕ → Acted
serial_number p s d = cond (eqb (length p.serial) 0) (replying s d command_not_supported []) (replying s d ok p.serial)

-- 0x05 start: no reply, running, waiting bytes lost (w = 0)
abbrev pub started : State → List ℕ → Acted
started s d = record {
  response = NoReply;
  state = with_running (with_upload s (record { next = s.upload.next; waiting = []; count = s.upload.count })) true;
  flash = d;
}

-- 0x06 write is accepted at 0 or next if its data don't run past S, in no other case
abbrev pub accepted : ℕ → ℕ → ℕ → ℕ → Bool
accepted S next address n = (eqb address 0 || eqb address next) && leb (address + n) S

-- an accepted write at 0, even an empty one, restarts: no waiting bytes, count 0
abbrev pub restarted : ℕ → Upload → Upload
restarted address u = cond (eqb address 0) fresh_upload u

-- 0x06 write: address, data bytes
unfoldable pub written : Profile → State → List ℕ → List ℕ → Acted
written p s args d =
    let address : ℕ = number_at args 0 in
    let bytes : List ℕ = drop 2 args in
    let g : Progress = taken_all p (record { upload = restarted address s.upload; flash = d }) bytes in
    cond (accepted p.size s.upload.next address (length bytes))
    (record { response = Reply ok []; state = with_upload s g.upload; flash = g.flash })
    (replying s d invalid_arguments [])

-- 0x07 finalize: answers the erase count as two bytes (house)
unfoldable pub finished : Profile → State → List ℕ → Acted
finished p s d =
    let g : Progress = finalized p (record { upload = s.upload; flash = d }) in
    record { response = Reply ok (two_bytes g.upload.count); state = with_upload s g.upload; flash = g.flash }

-- 0x08 read (house) shows flash, never waiting bytes: within S, and no longer than a reply holds
abbrev pub readable : Profile → ℕ → ℕ → Bool
readable p address n = leb (address + n) p.size && leb n (p.longest - shortest_reply p.bus)

-- 0x08 read: address in two bytes, length in one
unfoldable pub shown : Profile → State → List ℕ → List ℕ → Acted
shown p s args d =
    let address : ℕ = number_at args 0 in
    let n : ℕ = get_or args 2 0 in
    cond (readable p address n)
    (replying s d ok (take n (drop (p.offset + address) d)))
    (replying s d invalid_arguments [])

-- the command's own rule, for a served code
unfoldable pub performed : Profile → State → ℕ → List ℕ → List ℕ → Acted
performed p s code args d =
    cond (eqb code 0x00) (replying s d ok (2 ∷ 2 ∷ []))
    (cond (eqb code 0x01) (set_address p s args d)
    (cond (eqb code 0x03) (replying s d ok (hardware_info p))
    (cond (eqb code 0x04) (serial_number p s d)
    (cond (eqb code 0x05) (started s d)
    (cond (eqb code 0x06) (written p s args d)
    (cond (eqb code 0x07) (finished p s d)
    (cond (eqb code 0x08) (shown p s args d)
    (cond (eqb code 0x09) (replying s d ok (p.actual ∷ []))
    (replying s d ok (two_bytes p.longest))))))))))

-- unknown or unserved command, COMMAND_NOT_SUPPORTED; wrong argument length, INVALID_ARGUMENTS; then the command's own rule
unfoldable pub executed : Profile → State → ℕ → List ℕ → List ℕ → Acted
executed p s code args d =
    cond (not (served code)) (replying s d command_not_supported [])
    (cond (not (length_allowed code (length args))) (replying s d invalid_arguments [])
    (performed p s code args d))
