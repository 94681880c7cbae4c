-- The state buffer after a call says the state that the rules give: nothing that a board holds is lost at the boundary, and no byte that
-- means nothing is touched.
use Rattle.std.specs.Prelude.{◌≡◌, List, ℕ, ◌<◌, ◌≤◌, length}
use Rattle.rules.specs.State as rules
use Rattle.state.specs.View.{view}
use Rattle.state_bytes.specs.StateBytes.{state_size, state_at}
use Rattle.state_bytes.specs.BothWays.{RestKept}
use Rattle.childbus_board.specs.BoardBytes.{fresh_left, received_left, call_of}

pub record Kept : Type 0 where
  -- after childbus_fresh the fresh state
  pub fresh : (state : List ℕ) → state_size ≤ length state → view (state_at (fresh_left state).state) ≡ rules.fresh
  -- after childbus_receive, not refused, the state of the rules
  pub received : (profile state : List ℕ) (address : ℕ) (frame flash out : List ℕ)
      → (received_left profile state address frame flash out).number < 2
      → view (state_at (received_left profile state address frame flash out).state) ≡ (call_of profile state address frame flash out).state
  -- and each byte that means nothing is as it was
  pub rest : (profile state : List ℕ) (address : ℕ) (frame flash out : List ℕ)
      → (received_left profile state address frame flash out).number < 2
      → RestKept (call_of profile state address frame flash out).state state (received_left profile state address frame flash out).state
  -- a refused call leaves the bytes
  pub refused : (profile state : List ℕ) (address : ℕ) (frame flash out : List ℕ)
      → 2 ≤ (received_left profile state address frame flash out).number
      → (received_left profile state address frame flash out).state ≡ state
