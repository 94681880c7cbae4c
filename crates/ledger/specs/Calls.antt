-- A list of board calls, what any board does with it, and what is written down of each call.
use Rattle.std.specs.Prelude.{List, [], ◌∷◌, ℕ}
use Rattle.rules.specs.Profile.{Profile}
use Rattle.rules.specs.State.{State, fresh}
use Rattle.rules.specs.Board.{Called, received, read_out}
use Rattle.ledger.specs.Ledger.{Ledger, opened, entered, entered_read}

-- a received frame: the I²C address beside it, the frame, how long its reply buffer is; an I²C read: its address, how long its buffer is
pub data Call : Type 0 where
  Frame : ℕ → List ℕ → ℕ → Call
  Read : ℕ → ℕ → Call

-- what a board does with a call: number, reply bytes, its own state afterwards, and the flash
pub record Reaction (A : Type 0) : Type 0 where
  pub number : ℕ
  pub reply : List ℕ
  pub state : A
  pub flash : List ℕ

-- any board at all: what it keeps, how it begins, the count that its state shows, and what it does
pub record Board : Type 1 where
  pub Kept : Type 0
  pub fresh : Kept
  pub count : Kept → ℕ
  pub call : Profile → Kept → List ℕ → Call → Reaction Kept

abbrev pub reaction : Called → Reaction State
reaction c = record { number = c.number; reply = c.reply; state = c.state; flash = c.flash }

abbrev pub calls : Profile → State → List ℕ → Call → Reaction State
calls p s d (Frame a f n) = reaction (received p s a f d n)
calls p s d (Read a n) = reaction (read_out p s a d n)

-- the board of the rules
abbrev pub ruled : Board
ruled = record { Kept = State; fresh = fresh; count = λ s. s.upload.count; call = calls }

-- one call of a list, written down: its answer, and after it the state's count, the flash and the ledger
pub record Step : Type 0 where
  pub call : Call
  pub number : ℕ
  pub reply : List ℕ
  pub count : ℕ
  pub flash : List ℕ
  pub ledger : Ledger

-- the ledger is fed a call with its answer
abbrev pub fed : Profile → Ledger → Call → ℕ → List ℕ → Ledger
fed p k (Frame a f n) number reply = entered p k a f number reply
fed p k (Read a n) number reply = entered_read k

module _ (B : Board) (p : Profile) where
  abbrev pub stepped : Ledger → Call → Reaction B.Kept → Step
  stepped k c r =
      record {
        call = c;
        number = r.number;
        reply = r.reply;
        count = B.count r.state;
        flash = r.flash;
        ledger =
            fed p k c r.number r.reply;
      }

  -- each call takes state and flash from the one before
  unfoldable pub trace : B.Kept → List ℕ → Ledger → List Call → List Step
  trace s d k [] = []
  trace s d k (c ∷ cs) =
      let r : Reaction B.Kept = B.call p s d c in
      stepped k c r ∷ trace r.state r.flash (fed p k c r.number r.reply) cs

-- a whole list under one profile: from the fresh state, on any flash
abbrev pub traced : Board → Profile → List ℕ → List Call → List Step
traced B p d cs = trace B p B.fresh d (opened d) cs
