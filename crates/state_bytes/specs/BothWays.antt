-- What both ways through the state's bytes keep: all that a board can hold, and every byte that means nothing.
use Rattle.std.specs.Prelude.{◌≡◌, true, false, List, ℕ, ◌≤◌, ◌<◌, ◌^◌, length, drop, get_or}
use Rattle.rules.specs.declared.kinds.Address.TheVariants.{DefaultRange}
use Rattle.rules.specs.Profile.{Profile, in_range}
use Rattle.rules.specs.State.{State, well_formed}
use Rattle.state.specs.View.{largest_page, largest_frame, view}
use Rattle.fields.specs.Fields.{Bytes, part}
use Rattle.state_bytes.specs.StateBytes.{waiting_from, reply_from, state_size, state_held, state_at, state_written}

-- a state whose numbers fit their bytes, and whose bytes fit their buffers
pub record StateFits (s : State) : Type 0 where
  pub next : s.upload.next < 2 ^ 32
  pub count : s.upload.count < 2 ^ 32
  pub waiting : length s.upload.waiting ≤ largest_page
  pub last : length s.last ≤ largest_frame

-- where the state s was written into b, which is b' then, each byte that means nothing is as it was
pub record RestKept (s : State) (b b' : List ℕ) : Type 0 where
  pub byte3 : get_or b' 3 0 ≡ get_or b 3 0
  -- the own address in the default range
  pub byte1 : s.address ≡ DefaultRange → get_or b' 1 0 ≡ get_or b 1 0
  -- behind the waiting bytes, and behind the last reply
  pub waiting : drop (length s.upload.waiting) (part b' waiting_from largest_page)
      ≡ drop (length s.upload.waiting) (part b waiting_from largest_page)
  pub last : drop (length s.last) (part b' reply_from largest_frame) ≡ drop (length s.last) (part b reply_from largest_frame)
  -- past the state
  pub past : drop state_size b' ≡ drop state_size b

pub record BothWays : Type 0 where
  -- every state that is well formed under a profile in range fits
  pub state_fits : (p : Profile) (s : State) → in_range p ≡ true → well_formed p s ≡ true → StateFits s
  -- a state that was written is read back, whatever the buffer held
  pub state_read : (s : State) (b : List ℕ) → StateFits s → state_size ≤ length b → view (state_at (state_written s b)) ≡ s
  -- and what means nothing is left as it was
  pub rest_kept : (s : State) (b : List ℕ) → StateFits s → state_size ≤ length b → RestKept s b (state_written s b)
  -- a state that was read and is written back changes no byte
  pub state_kept : (b : List ℕ) → Bytes b → state_held b ≡ true → StateFits (view (state_at b)) → state_written (view (state_at b)) b ≡ b
  -- bytes that hold no state are number 4, whatever the profile
  pub state_malformed : (p : Profile) (b : List ℕ) → state_held b ≡ false → well_formed p (view (state_at b)) ≡ false
