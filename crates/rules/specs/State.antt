-- Document 01, "Profile and sizes": the state of a board, without the bytes that mean nothing, and the malformed-state rule (number 4).
use Rattle.std.specs.Prelude.{Bool, false, ◌&&◌, List, [], ◌++◌, ℕ, ◌-◌, ◌%◌, eqb, leb, length, take, replicate}
use Rattle.rules.specs.declared.kinds.Bus.{Bus}
use Rattle.rules.specs.declared.kinds.Bus.TheVariants.{I2c, Rs485}
use Rattle.rules.specs.declared.kinds.Address.{Address}
use Rattle.rules.specs.declared.kinds.Address.TheVariants.{DefaultRange}
use Rattle.rules.specs.Profile.{Profile}

pub record Upload : Type 0 where
  -- next address
  pub next : ℕ
  -- waiting bytes w: the last accepted ones, not yet in flash
  pub waiting : List ℕ
  -- erase count
  pub count : ℕ

pub record State : Type 0 where
  -- own address or "default range"
  pub address : Address
  pub running : Bool
  pub upload : Upload
  -- on I²C the last reply; none is the empty list
  pub last : List ℕ

abbrev pub fresh_upload : Upload
fresh_upload = record { next = 0; waiting = []; count = 0 }

-- Fresh: not running, in the default range, else zero
abbrev pub fresh : State
fresh = record { address = DefaultRange; running = false; upload = fresh_upload; last = [] }

-- the state with one field changed, the others kept
abbrev pub with_address : State → Address → State
with_address s a = record { address = a; running = s.running; upload = s.upload; last = s.last }

abbrev pub with_running : State → Bool → State
with_running s r = record { address = s.address; running = r; upload = s.upload; last = s.last }

abbrev pub with_upload : State → Upload → State
with_upload s u = record { address = s.address; running = s.running; upload = u; last = s.last }

abbrev pub with_last : State → List ℕ → State
with_last s l = record { address = s.address; running = s.running; upload = s.upload; last = l }

-- the n bytes in use of a buffer; a length past its end, which only a malformed state has, is filled up with zeros
unfoldable pub used : ℕ → List ℕ → List ℕ
used n buffer = take n (buffer ++ replicate n 0)

-- next is at most S, w at most next mod page, the count at most next - w
unfoldable pub upload_formed : ℕ → ℕ → Upload → Bool
upload_formed page S u = leb u.next S && (leb (length u.waiting) (u.next % page) && leb u.count (u.next - length u.waiting))

-- a last reply is at most M long, and there is none on RS485
abbrev pub reply_formed : Bus → ℕ → List ℕ → Bool
reply_formed I2c M last = leb (length last) M
reply_formed Rs485 M last = leb (length last) M && eqb (length last) 0

-- number 4 is given exactly where this is false
unfoldable pub well_formed : Profile → State → Bool
well_formed p s = upload_formed p.page p.size s.upload && reply_formed p.bus p.longest s.last
