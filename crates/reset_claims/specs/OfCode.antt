-- W4 of the code: what `reset_running::reset_running` wrote, given to `board::receive`.
use Rattle.std.specs.Prelude.{◌≡◌, Result, List, ℕ, ◌<◌, length, take}
use Rattle.rules.specs.declared.requests.ResetError.{ResetError}
use Rattle.rules.specs.State.{fresh}
use Rattle.rules.specs.Numbers.{number}
use Rattle.rules.specs.Master.{reset_number, reset_length, running_reset}
use Rattle.encoder.specs.Calls.{Encodes}
use Rattle.roundtrip.specs.Sending.{Beside}
use Rattle.state.specs.declared.State.{State}
use Rattle.state.specs.View.{view}
use Rattle.profile.specs.declared.Profile.{Profile}
use Rattle.refinement.specs.Happened.{Receive, Happened, Promised}

-- one call of the board after which it is fresh; flash and buffer are as before
pub record BoardFresh (d : List ℕ) (h : Happened) : Type 0 where
  pub number_is : number h.answer.outcome ≡ 1
  pub state_is : view h.answer.state ≡ fresh
  pub flash_is : h.flash ≡ d
  pub buffer_is : h.after ≡ h.before

-- the bytes that an answer of number 0 says were made, sent as a general call
abbrev pub CodeResets : Type 0
CodeResets =
    (p : Profile) (s : State) (d : List ℕ) (h : Happened) (longest major minor a : ℕ) (answer : Result ℕ ResetError) (before after : List ℕ)
    → Encodes (reset_number answer) (reset_length answer) (running_reset p.bus longest major minor (length before)) before after
    → reset_number answer ≡ 0 → Beside p.bus a 0 → h.input ≡ Receive a (take (reset_length answer) after)
    → Promised p s d h → number h.answer.outcome < 2 → BoardFresh d h
