-- The board's calls over bytes: number, single result, and every byte of the buffers, for any bytes of any length. A buffer that holds no
-- profile or no state reads as one that the board refuses (`profile_at`, `state_at`).
use Rattle.std.specs.Prelude.{cond, List, ℕ, leb, ltb, length, replicate}
use Rattle.rules.specs.Numbers.{laid}
use Rattle.rules.specs.Board.{Called, received, read_out}
use Rattle.state.specs.View.{view}
use Rattle.profile.specs.View.{profile_of}
use Rattle.profile_bytes.specs.ProfileBytes.{profile_at}
use Rattle.state_bytes.specs.StateBytes.{state_size, state_at, state_written}

-- childbus_fresh

pub record FreshLeft : Type 0 where
  pub number : ℕ
  pub state : List ℕ

-- zeros in every byte of a state; 4 for a buffer that is too short, which stays as it was
unfoldable pub fresh_left : List ℕ → FreshLeft
fresh_left state =
    cond (leb state_size (length state))
    (record { number = 0; state = laid (replicate state_size 0) state })
    (record { number = 4; state = state })

-- childbus_receive

pub record ReceivedLeft : Type 0 where
  pub number : ℕ
  pub made : ℕ
  pub state : List ℕ
  pub flash : List ℕ
  pub out : List ℕ

-- a refused call leaves every byte of the state; any other writes the new state, and leaves every byte that means nothing
abbrev pub state_left : Called → List ℕ → List ℕ
state_left c state = cond (ltb c.number 2) (state_written c.state state) state

abbrev pub received_by : Called → List ℕ → List ℕ → ReceivedLeft
received_by c state out =
    record { number = c.number; made = length c.reply; state = state_left c state; flash = c.flash; out = laid c.reply out }

-- the call that the bytes say
abbrev pub call_of : List ℕ → List ℕ → ℕ → List ℕ → List ℕ → List ℕ → Called
call_of profile state address frame flash out =
    received (profile_of (profile_at profile)) (view (state_at state)) address frame flash (length out)

unfoldable pub received_left : List ℕ → List ℕ → ℕ → List ℕ → List ℕ → List ℕ → ReceivedLeft
received_left profile state address frame flash out = received_by (call_of profile state address frame flash out) state out

-- childbus_read: state and flash are only read

pub record ReadLeft : Type 0 where
  pub number : ℕ
  pub made : ℕ
  pub out : List ℕ

abbrev pub read_by : Called → List ℕ → ReadLeft
read_by c out = record { number = c.number; made = length c.reply; out = laid c.reply out }

unfoldable pub read_left : List ℕ → List ℕ → ℕ → List ℕ → List ℕ → ReadLeft
read_left profile state address flash out =
    read_by (read_out (profile_of (profile_at profile)) (view (state_at state)) address flash (length out)) out
