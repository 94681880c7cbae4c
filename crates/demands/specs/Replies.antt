-- Demand 2's "every reply byte" over any board.
use Rattle.std.specs.Prelude.{◌≡◌, List, [], ◌∷◌, ℕ}
use Rattle.rules.specs.Profile.{Profile}
use Rattle.ledger.specs.Calls.{Call, Board, Step, ruled, traced}

-- what a call answered
pub record CallAnswer : Type 0 where
  pub number : ℕ
  pub reply : List ℕ

abbrev pub answers : List Step → List CallAnswer
answers [] = []
answers (s ∷ ss) = record { number = s.number; reply = s.reply } ∷ answers ss

-- on every list from the fresh board with any flash, under any profile, each call's number and reply bytes are those that the rules give
-- for the calls before it
abbrev pub EveryReply : Board → Type 0
EveryReply B = (p : Profile) (d : List ℕ) (cs : List Call) → answers (traced B p d cs) ≡ answers (traced ruled p d cs)
