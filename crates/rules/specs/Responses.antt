-- Document 01, "Commands": what a command hands back, for board and master: a status with its results, or nothing.
use Rattle.std.specs.Prelude.{List, ℕ}
use Rattle.rules.specs.State.{State}

-- the status codes of a reply
abbrev pub ok : ℕ
ok = 0

abbrev pub command_not_supported : ℕ
command_not_supported = 2

abbrev pub invalid_transfer : ℕ
invalid_transfer = 3

abbrev pub invalid_crc : ℕ
invalid_crc = 4

abbrev pub invalid_arguments : ℕ
invalid_arguments = 5

-- the response of a command: a status with its results, or nothing
pub data Response : Type 0 where
  Reply : ℕ → List ℕ → Response
  NoReply : Response

pub record Acted : Type 0 where
  pub response : Response
  pub state : State
  pub flash : List ℕ

-- a reply that changes nothing
abbrev pub replying : State → List ℕ → ℕ → List ℕ → Acted
replying s d status results = record { response = Reply status results; state = s; flash = d }
