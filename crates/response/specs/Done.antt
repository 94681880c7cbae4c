-- What a command function leaves: its response, the state, the flash, and the results in the lent buffer from a place on. The state is the
-- head that it hands back, with the buffers w of the waiting bytes and l of the last reply.
use Rattle.std.specs.Prelude.{Option, Some, None, List, ℕ, ◌+◌, ◌≤◌, ◌≡◌, length, drop}
use Rattle.rules.specs.Bytes.{overlay}
use Rattle.rules.specs.State as rules
use Rattle.rules.specs.Numbers.{Unrefused}
use Rattle.rules.specs.Responses as responses
use Rattle.rules.specs.Responses.{Acted, Reply, NoReply}
use Rattle.rules.specs.Frames.{header_length}
use Rattle.state.specs.declared.Head.{Head}
use Rattle.state.specs.View.{view}
use Rattle.state.specs.Heads.{state_with}
use Rattle.profile.specs.declared.Profile.{Profile}
use Rattle.profile.specs.View.{profile_of}
use Rattle.response.specs.declared.Response.{Response}
use Rattle.response.specs.declared.Done.{Done}

pub record CommandEffect : Type 0 where
  pub response : Option Response
  pub state : rules.State
  pub flash : List ℕ
  pub out : List ℕ

-- what a command function left
abbrev pub command_effect : Done → List ℕ → List ℕ → List ℕ → List ℕ → CommandEffect
command_effect r w l d out = record { response = r.response; state = view (state_with r.head w l); flash = d; out = out }

-- a response with its results counted, and laid over the buffer
abbrev pub counted : responses.Response → Option Response
counted (Reply status results) = Some (record { status = status; count = length results })
counted NoReply = None

abbrev pub results_in : responses.Response → List ℕ → ℕ → List ℕ
results_in (Reply status results) out at = overlay out at results
results_in NoReply out at = out

-- what the rules say of a command, with its results laid over the buffer from a place on
abbrev pub ruled_command : Acted → List ℕ → ℕ → CommandEffect
ruled_command a out at =
    record { response = counted a.response; state = a.state; flash = a.flash; out = results_in a.response out at }

-- what is left by a command function that is lent the waiting bytes' buffer, w before and w' after; a l is what the rules say of the
-- command where l is the last reply's buffer
pub record Commanded (r : Done) (w w' d out' : List ℕ) (a : List ℕ → Acted) (out : List ℕ) (at : ℕ) : Type 0 where
  pub ruled : (l : List ℕ) → command_effect r w' l d out' ≡ ruled_command (a l) out at
  -- bytes behind the waiting ones are untouched
  pub behind : drop r.head.counts.held w' ≡ drop r.head.counts.held w

-- what a command function asks: none of the numbers 2 to 5 applies, whatever the state's buffers hold, and results begin behind the header,
-- the status and their count
pub record Serving (p : Profile) (h : Head) (flashLength bufferLength at : ℕ) : Type 0 where
  pub unrefused : (w l : List ℕ) → Unrefused (profile_of p) (view (state_with h w l)) flashLength bufferLength
  pub at_is : at ≡ header_length p.bus + 2
