-- Boards to try against the claims of W8: right but for one named error.
use Rattle.std.specs.Prelude.{List, ℕ, ◌+◌, ◌-◌, length}
use Rattle.rules.specs.Bytes.{overlay}
use Rattle.rules.specs.State.{State, Upload}
use Rattle.rules.specs.Frames.{verdict}
use Rattle.rules.specs.Commit.{page_start, committed}
use Rattle.rules.specs.Board.{handled}
use Rattle.ledger.specs.Calls.{Call, Frame, Read, Reaction, Board, reaction, calls}
use Rattle.rules.specs.Profile.{Profile}
use Rattle.wrongboards.specs.Variations.{board_by, committed_by}

-- one that lays waiting bytes from the start of their page on
abbrev pub lays_at_page_start : Board
lays_at_page_start =
    committed_by (λ p g.
    let u : Upload = g.upload in
    let start : ℕ = p.offset + page_start p.page (u.next - length u.waiting) in
    record { upload = (committed p g).upload; flash = overlay g.flash start u.waiting })

-- one that lays them and keeps them waiting
abbrev pub keeps_waiting : Board
keeps_waiting = committed_by (λ p g. record { upload = g.upload; flash = (committed p g).flash })

-- one that takes any state
abbrev pub judges_nothing : Profile → State → List ℕ → Call → Reaction State
judges_nothing p s d (Frame a f n) = reaction (handled p s a f d (verdict p.bus p.longest s.running s.address a f))
judges_nothing p s d (Read a n) = calls p s d (Read a n)

abbrev pub takes_malformed : Board
takes_malformed = board_by judges_nothing
