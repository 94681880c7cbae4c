-- A script: calls written in bytes, and what running it on the code leaves.
use Rattle.std.specs.Prelude.{◌≡◌, Bool, cond, List, [], ◌∷◌, ℕ, zero, suc, ◌+◌, eqb, leb, length, take, drop, get_or}
use Rattle.rules.specs.State as rules
use Rattle.rules.specs.Numbers.{laid}
use Rattle.rules.specs.Frames.{number_at}
use Rattle.ledger.specs.Ledger.{Ledger, opened}
use Rattle.ledger.specs.Calls.{Call, Reaction, calls, Step}
use Rattle.state.specs.declared.State.{State}
use Rattle.state.specs.View.{view, zeroed}
use Rattle.profile.specs.declared.Profile.{Profile}
use Rattle.profile.specs.View.{profile_of}
use Rattle.refinement.specs.Happened.{CallInput, Receive, Read, Happened, Ran, call_with, calls_of, steps_of}
use Rattle.refinement.specs.Met.{Met}

-- a record: a kind, an address, a length in two bytes, and as many bytes of a frame
abbrev pub head : ℕ
head = 4

-- kind 0 is a received frame, any other an I²C read
abbrev pub input_by : ℕ → ℕ → List ℕ → CallInput
input_by kind a f = cond (eqb kind 0) (Receive a f) (Read a)

abbrev pub frame_length : List ℕ → ℕ
frame_length bytes = number_at bytes 2

-- a whole record stands at the front
abbrev pub whole : List ℕ → Bool
whole bytes = leb (head + frame_length bytes) (length bytes)

-- what it asks for
abbrev pub input : List ℕ → CallInput
input bytes = input_by (get_or bytes 0 0) (get_or bytes 1 0) (take (frame_length bytes) (drop head bytes))

-- the calls of at most so many records, each with a reply buffer of n bytes; what is not a whole record ends a script
unfoldable pub calls_of_records : ℕ → ℕ → List ℕ → List Call
calls_of_records n zero bytes = []
calls_of_records n (suc most) bytes =
    cond (whole bytes) (call_with (input bytes) n ∷ calls_of_records n most (drop (head + frame_length bytes) bytes)) []

-- the calls of a script: there are no more records in it than bytes
abbrev pub calls_in : ℕ → List ℕ → List Call
calls_in n bytes = calls_of_records n (length bytes) bytes

-- the state and the flash that the last call left

abbrev pub state_after : State → List Happened → State
state_after s [] = s
state_after s (h ∷ hs) = state_after h.answer.state hs

abbrev pub flash_after : List ℕ → List Happened → List ℕ
flash_after d [] = d
flash_after d (h ∷ hs) = flash_after h.flash hs

-- one reply buffer lent to all calls, and what it holds after the last one

abbrev pub Lent : List ℕ → List Happened → Type 0
Lent out [] = Unit
Lent out (h ∷ hs) = (h.before ≡ out) × Lent h.after hs

abbrev pub buffer_after : List ℕ → List Happened → List ℕ
buffer_after out [] = out
buffer_after out (h ∷ hs) = buffer_after h.after hs

-- what calls leave: what the state says, the flash and the buffer
pub record Remains : Type 0 where
  pub state : rules.State
  pub flash : List ℕ
  pub out : List ℕ

abbrev pub remains : State → List ℕ → List ℕ → Remains
remains s d out = record { state = view s; flash = d; out = out }

abbrev pub remaining : Reaction rules.State → List ℕ → Remains
remaining r out = record { state = r.state; flash = r.flash; out = laid r.reply out }

-- what the rules say that a list of calls leaves
unfoldable pub ruled_all : Profile → Remains → List Call → Remains
ruled_all p x [] = x
ruled_all p x (c ∷ cs) = ruled_all p (remaining (calls (profile_of p) x.state x.flash c) x.out) cs

-- the ledger after some steps
abbrev pub ledger_after : Ledger → List Step → Ledger
ledger_after k [] = k
ledger_after k (s ∷ ss) = ledger_after s.ledger ss

-- calls of the code on the fresh board, in the order of a script, from the flash d and the buffer b to the state s, the flash e and the
-- buffer o
pub record Followed (p : Profile) (script d b : List ℕ) (s : State) (e o : List ℕ) : Type 0 where
  pub happened : List Happened
  pub in_order : calls_of happened ≡ calls_in (length b) script
  pub ran : Ran p zeroed d happened
  pub lent : Lent b happened
  pub state_left_holds : state_after zeroed happened ≡ s
  pub flash_left : flash_after d happened ≡ e
  pub buffer_left : buffer_after b happened ≡ o

-- what running a script promises
pub record Left (p : Profile) (script d b : List ℕ) (s : State) (e o : List ℕ) : Type 0 where
  -- what is left is what the rules say of its calls, every byte
  pub as_ruled : remains s e o ≡ ruled_all p (record { state = rules.fresh; flash = d; out = b }) (calls_in (length b) script)
  -- it came by calls of the code
  pub followed : Followed p script d b s e o
  -- the three demands of them
  pub met : Met p zeroed d followed.happened
  -- the flash and the count are the ledger's
  pub flash_is : e ≡ (ledger_after (opened d) (steps_of p d followed.happened)).copy
  pub count_is : s.upload.count ≡ (ledger_after (opened d) (steps_of p d followed.happened)).count
