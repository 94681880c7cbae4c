-- Bytes that wait in an upload, and bytes that a call lost: OK to a write is not yet flash.
use Rattle.std.specs.Prelude.{Bool, cond, not, ◌&&◌, List, [], ◌∷◌, ℕ, ◌+◌, ◌-◌, leb, length, take, drop}
use Rattle.rules.specs.State as rules
use Rattle.byte_parts.specs.Parts.{stands_at}
use Rattle.state.specs.declared.Upload.{Upload}

-- an upload of the code as the rules have it: the waiting bytes are the first `held` of its buffer, as many as it has at the most
abbrev pub upload_of : Upload → rules.Upload
upload_of u = record { next = u.next; waiting = take u.held u.waiting; count = u.count }

-- the flash address of the first waiting byte
abbrev pub first_waiting : rules.Upload → ℕ
first_waiting u = u.next - length u.waiting

-- b is among the bytes that wait from a flash address on, at its own address
abbrev pub waits_at : ℕ → List ℕ → ℕ → ℕ → Bool
waits_at first waiting address b = leb first address && stands_at waiting (address - first) b

-- b neither waits at its address nor stands in flash there; the flash is given from O on
abbrev pub lost_byte : List ℕ → ℕ → List ℕ → ℕ → ℕ → Bool
lost_byte flash first waiting address b = not (waits_at first waiting address b) && not (stands_at flash address b)

-- how many of the bytes from an address on are lost
unfoldable pub lost_from : List ℕ → ℕ → List ℕ → ℕ → List ℕ → ℕ
lost_from flash first waiting address [] = 0
lost_from flash first waiting address (b ∷ bs) =
    cond (lost_byte flash first waiting address b) 1 0 + lost_from flash first waiting (address + 1) bs

-- lost: how many bytes that waited before a call are neither waiting nor in flash at their place after it
abbrev pub lost_bytes : ℕ → rules.Upload → rules.Upload → List ℕ → ℕ
lost_bytes O before after d = lost_from (drop O d) (first_waiting after) after.waiting (first_waiting before) before.waiting

-- still wait: how many bytes wait
abbrev pub waiting_bytes : rules.Upload → ℕ
waiting_bytes u = length u.waiting
