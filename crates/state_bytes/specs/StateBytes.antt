-- The state in bytes: which bytes hold one, which state they say, and what is written of a state.
use Rattle.std.specs.Prelude.{Bool, cond, ◌&&◌, List, [], ◌∷◌, ◌++◌, ℕ, ◌+◌, eqb, leb, length, get_or}
use Rattle.rules.specs.declared.kinds.Address.{Address}
use Rattle.rules.specs.declared.kinds.Address.TheVariants.{DefaultRange, Own}
use Rattle.rules.specs.Bytes.{overlay}
use Rattle.rules.specs.Numbers.{laid}
use Rattle.rules.specs.State as rules
use Rattle.state.specs.declared.State.{State}
use Rattle.state.specs.View.{largest_page, largest_frame, zeroed, with_held}
use Rattle.byte_slices.specs.Four.{four_at, four_bytes}
use Rattle.fields.specs.Fields.{part}

-- where the waiting bytes begin, `WAITING_AT`
abbrev pub waiting_from : ℕ
waiting_from = 20

-- where the last reply begins, `REPLY_AT`
abbrev pub reply_from : ℕ
reply_from = waiting_from + largest_page

-- `STATE_BYTES`
abbrev pub state_size : ℕ
state_size = reply_from + largest_frame

-- byte 0 is an address kind and byte 2 says whether the board runs, each 0 or 1; bytes past the state's mean nothing
abbrev pub state_held : List ℕ → Bool
state_held b = leb state_size (length b) && (leb (get_or b 0 0) 1 && leb (get_or b 2 0) 1)

-- 0 default range, 1 own address
abbrev pub address_of : ℕ → ℕ → Address
address_of kind own = cond (eqb kind 0) DefaultRange (Own own)

abbrev pub kind_byte : Address → ℕ
kind_byte DefaultRange = 0
kind_byte (Own own) = 1

-- in the default range byte 1, which means nothing there, stays as it was
abbrev pub own_byte : Address → ℕ → ℕ
own_byte DefaultRange before = before
own_byte (Own own) before = own

abbrev pub running_byte : Bool → ℕ
running_byte running = cond running 1 0

-- byte 3 means nothing, nor does byte 1 in the default range
abbrev pub state_said : List ℕ → State
state_said b = record {
  address = address_of (get_or b 0 0) (get_or b 1 0);
  running = eqb (get_or b 2 0) 1;
  upload = record { next = four_at b 4; held = four_at b 8; count = four_at b 12; waiting = part b waiting_from largest_page };
  last = record { len = four_at b 16; bytes = part b reply_from largest_frame };
}

-- what bytes that hold no state read as: a byte waits before any was accepted, which is malformed
abbrev pub no_state : State
no_state = with_held zeroed 1

-- any bytes read as a state
unfoldable pub state_at : List ℕ → State
state_at b = cond (state_held b) (state_said b) no_state

-- the first bytes, over those of b: all of a state but its waiting bytes and its last reply; byte 3 stays as it was
abbrev pub head_bytes : rules.State → List ℕ → List ℕ
head_bytes s b =
    (kind_byte s.address ∷ own_byte s.address (get_or b 1 0) ∷ running_byte s.running ∷ get_or b 3 0 ∷ [])
    ++ four_bytes s.upload.next
    ++ four_bytes (length s.upload.waiting)
    ++ four_bytes s.upload.count
    ++ four_bytes (length s.last)

-- these laid over a buffer
abbrev pub head_written : rules.State → List ℕ → List ℕ
head_written s b = laid (head_bytes s b) b

-- a buffer after a state was written into it: the waiting bytes, the last reply, the first bytes; every byte that means nothing stays
unfoldable pub state_written : rules.State → List ℕ → List ℕ
state_written s b = head_written s (overlay (overlay b waiting_from s.upload.waiting) reply_from s.last)
