-- Document 01, "The plain book": an independent witness. It gets the profile, frames and their answers, but no state or flash of the board.
-- It shares no definition with the board: it reads frames at fixed offsets, knows the RS485 reset as its four bytes, and lays bytes in a
-- way of its own.
use Rattle.std.specs.Prelude.{Bool, true, false, cond, ◌&&◌, ◌||◌, not, List, [], ◌∷◌, ◌++◌, ℕ, ◌+◌, ◌-◌, ◌*◌, ◌/◌, ◌%◌, eqb, ltb}
use Rattle.std.specs.Prelude.{length, take, drop, get_or, set}
use Rattle.rules.specs.declared.kinds.Bus.{Bus}
use Rattle.rules.specs.declared.kinds.Bus.TheVariants.{I2c, Rs485}
use Rattle.rules.specs.Profile.{Profile}

-- the ledger: a copy of the flash, an earlier one, accepted bytes, the number committed, a count, and f
pub record Ledger : Type 0 where
  pub copy : List ℕ
  pub earlier : List ℕ
  pub accepted : List ℕ
  pub committed : ℕ
  pub count : ℕ
  -- f, finalizes that found bytes not committed
  pub finals : ℕ

-- both copies are the given flash, the rest is empty or 0; also a reset, of the copy there is then
abbrev pub opened : List ℕ → Ledger
opened d = record { copy = d; earlier = d; accepted = []; committed = 0; count = 0; finals = 0 }

-- bytes laid over a list from a place on, one by one
abbrev pub lay : List ℕ → ℕ → List ℕ → List ℕ
lay d at [] = d
lay d at (b ∷ bs) = lay (set d at b) (at + 1) bs

-- two lists are not equal
abbrev pub unequal : List ℕ → List ℕ → Bool
unequal [] [] = false
unequal [] (y ∷ ys) = true
unequal (x ∷ xs) [] = true
unequal (x ∷ xs) (y ∷ ys) = not (eqb x y) || unequal xs ys

-- a commit of the ledger: each uncommitted byte is written to the flash copy at O plus its place in the accepted bytes;
-- a change raises the count by one; no byte stays uncommitted
unfoldable pub commits : Profile → Ledger → Ledger
commits p k =
    let new : List ℕ = lay k.copy (p.offset + k.committed) (drop k.committed k.accepted) in
    record {
      copy = new;
      earlier = k.earlier;
      accepted = k.accepted;
      committed = length k.accepted;
      count = k.count + cond (unequal k.copy new) 1 0;
      finals = k.finals;
    }

-- one more accepted byte; the ledger commits when it completes a page
unfoldable pub joins : Profile → Ledger → ℕ → Ledger
joins p k b =
    let more : Ledger =
    record {
      copy = k.copy;
      earlier = k.earlier;
      accepted = k.accepted ++ (b ∷ []);
      committed = k.committed;
      count = k.count;
      finals = k.finals;
    } in
    cond (eqb (length more.accepted % p.page) 0) (commits p more) more

unfoldable pub joins_all : Profile → Ledger → List ℕ → Ledger
joins_all p k [] = k
joins_all p k (b ∷ bs) = joins_all p (joins p k b) bs

-- accepted write: at 0 it first does what a reset does; then it adds its data bytes
unfoldable pub writes : Profile → Ledger → ℕ → List ℕ → Ledger
writes p k address bytes = joins_all p (cond (eqb address 0) (opened k.copy) k) bytes

-- answered finalize: with uncommitted bytes it adds one to f, and the ledger commits
unfoldable pub finalizes : Profile → Ledger → Ledger
finalizes p k =
    cond (ltb k.committed (length k.accepted))
    (commits p (record {
      copy = k.copy;
      earlier = k.earlier;
      accepted = k.accepted;
      committed = k.committed;
      count = k.count;
      finals = k.finals + 1;
    }))
    k

-- where things stand in the frames of a bus
pub record Offsets : Type 0 where
  -- the command in a request, and the status in a reply
  pub command : ℕ
  -- a write's address in a request
  pub address : ℕ
  -- its data
  pub bytes : ℕ
  -- how many check sum bytes end a frame
  pub ending : ℕ

abbrev pub offsets : Bus → Offsets
offsets I2c = record { command = 0; address = 1; bytes = 3; ending = 1 }
offsets Rs485 = record { command = 1; address = 2; bytes = 4; ending = 2 }

-- a received frame with this command, whose call answers 0 with status OK
abbrev pub answered_ok : Bus → ℕ → List ℕ → ℕ → List ℕ → Bool
answered_ok bus code f number reply =
    eqb (get_or f (offsets bus).command 0) code && (eqb number 0 && eqb (get_or reply (offsets bus).command 1) 0)

-- a write's address and data
abbrev pub write_address : Bus → List ℕ → ℕ
write_address bus f = get_or f (offsets bus).address 0 * 256 + get_or f ((offsets bus).address + 1) 0

abbrev pub write_data : Bus → List ℕ → List ℕ
write_data bus f = take (length f - (offsets bus).bytes - (offsets bus).ending) (drop (offsets bus).bytes f)

-- the two bytes of the count in a finalize's reply, and those of a number
abbrev pub count_bytes : Bus → List ℕ → List ℕ
count_bytes bus reply = take 2 (drop ((offsets bus).command + 2) reply)

abbrev pub high_low : ℕ → List ℕ
high_low n = n / 256 ∷ n % 256 ∷ []

-- the second general call's form: on I²C the one byte 06 at address 0, on RS485 the bytes 00 46 80 42
abbrev pub reset_form : Bus → ℕ → List ℕ → Bool
reset_form I2c a f = eqb a 0 && (eqb (length f) 1 && eqb (get_or f 0 0) 0x06)
reset_form Rs485 a f =
    eqb (length f) 4 && (eqb (get_or f 0 1) 0x00 && (eqb (get_or f 1 0) 0x46 && (eqb (get_or f 2 0) 0x80 && eqb (get_or f 3 0) 0x42)))

-- reset: the second general call, answered 1
abbrev pub is_reset : Bus → ℕ → List ℕ → ℕ → Bool
is_reset bus a f number = reset_form bus a f && eqb number 1

abbrev pub is_write : Bus → List ℕ → ℕ → List ℕ → Bool
is_write bus f number reply = answered_ok bus 0x06 f number reply

abbrev pub is_finalize : Bus → List ℕ → ℕ → List ℕ → Bool
is_finalize bus f number reply = answered_ok bus 0x07 f number reply

-- the ledger is fed a received frame with its answer; other calls, refused ones too: nothing
unfoldable pub entered : Profile → Ledger → ℕ → List ℕ → ℕ → List ℕ → Ledger
entered p k a f number reply =
    cond (is_reset p.bus a f number) (opened k.copy)
    (cond (is_write p.bus f number reply) (writes p k (write_address p.bus f) (write_data p.bus f))
    (cond (is_finalize p.bus f number reply) (finalizes p k)
    k))

-- and an I²C read: nothing
abbrev pub entered_read : Ledger → Ledger
entered_read k = k
