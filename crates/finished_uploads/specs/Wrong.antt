-- Claims that are false of the board of the rules, and boards that fail the claim: right but for one named error.
use Rattle.std.specs.Prelude.{◌≡◌, Bool, true, false, cond, ◌&&◌, List, [], ℕ, ◌+◌, eqb, length}
use Rattle.rules.specs.Bytes.{overlay}
use Rattle.rules.specs.Profile.{Profile}
use Rattle.rules.specs.State.{State, with_upload}
use Rattle.rules.specs.Frames.{ignored, number_at}
use Rattle.rules.specs.Responses.{Acted}
use Rattle.rules.specs.Commands.{executed}
use Rattle.rules.specs.Board.{Called, handled}
use Rattle.changed_pages.specs.ChangedPages.{changed_pages}
use Rattle.ledger.specs.Ledger.{opened, count_bytes, high_low}
use Rattle.ledger.specs.Calls.{Call, Frame, Read, Reaction, Board, Step, calls, ruled, trace}
use Rattle.ledger.specs.Claim.{finalize_step, pieces, from_zero, joined, Every}
use Rattle.wrongboards.specs.Variations.{board_by, handling_by, ruled_by}
use Rattle.finished_uploads.specs.Uploads.{begins, resetting, Uploaded, EachStretch}

-- claims over every list of the rules' board, from any state

abbrev OfRuled : (Profile → List ℕ → List Step → Step → Type 0) → Type 0
OfRuled P = (p : Profile) (s : State) (d : List ℕ) (cs : List Call) → EachStretch (P p) d (trace ruled p s d (opened d) cs)

-- the count is the number of changed pages whatever finalizes stood between
abbrev pub CountsAlways : Type 0
CountsAlways =
    OfRuled (λ p d upload last. (image : List ℕ) → Uploaded p image upload last
    → count_bytes p.bus last.reply ≡ high_low (length (changed_pages p d image)))

-- the image lies at 0 of the lent flash
abbrev pub LaysAtZero : Type 0
LaysAtZero = OfRuled (λ p d upload last. (image : List ℕ) → Uploaded p image upload last → last.flash ≡ overlay d 0 image)

-- the image lies in flash though a reset stood between
abbrev pub SurvivesReset : Type 0
SurvivesReset =
    OfRuled (λ p d upload last. begins p upload ≡ true → from_zero (pieces p upload) ≡ true → finalize_step p last ≡ true
    → last.flash ≡ overlay d p.offset (joined (pieces p upload)))

-- every other byte is as it was some calls before the first write
abbrev pub BeginsEarlier : Type 0
BeginsEarlier =
    OfRuled (λ p d upload last. Every (λ s. resetting p s s.call ≡ false) upload → from_zero (pieces p upload) ≡ true
    → finalize_step p last ≡ true → last.flash ≡ overlay d p.offset (joined (pieces p upload)))

-- boards

-- a state that has lost its waiting bytes
abbrev without_waiting : State → State
without_waiting s = with_upload s (record { next = s.upload.next; waiting = []; count = s.upload.count })

-- what a command did, but the waiting bytes are lost where the test says so
abbrev losing : Bool → Acted → Acted
losing b a = record { response = a.response; state = cond b (without_waiting a.state) a.state; flash = a.flash }

-- one that loses them at a set address
abbrev pub loses_at_set_address : Board
loses_at_set_address = ruled_by (λ p s code args d. losing (eqb code 0x01) (executed p s code args d))

-- one that loses them at a read of its flash
abbrev pub loses_at_flash_read : Board
loses_at_flash_read = ruled_by (λ p s code args d. losing (eqb code 0x08) (executed p s code args d))

-- one that loses them at an ignored frame
abbrev pub loses_at_ignored : Board
loses_at_ignored =
    board_by (handling_by (λ p s a f d v.
    let c : Called = handled p s a f d v in
    record { number = c.number; reply = c.reply; state = cond (ignored v) (without_waiting c.state) c.state; flash = c.flash }))

-- one that loses them at an I²C read
abbrev read_loses : Profile → State → List ℕ → Call → Reaction State
read_loses p s d (Frame a f n) = calls p s d (Frame a f n)
read_loses p s d (Read a n) =
    let r : Reaction State = calls p s d (Read a n) in
    record { number = r.number; reply = r.reply; state = without_waiting r.state; flash = r.flash }

abbrev pub loses_at_read : Board
loses_at_read = board_by read_loses

-- one that goes on counting at a write at 0
abbrev pub counts_on : Board
counts_on =
    ruled_by (λ p s code args d.
    let a : Acted = executed p s code args d in
    let next : ℕ = a.state.upload.next in
    let w : List ℕ = a.state.upload.waiting in
    let sum : ℕ = a.state.upload.count + s.upload.count in
    cond (eqb code 0x06 && eqb (number_at args 0) 0)
    (record { response = a.response; state = with_upload a.state (record { next = next; waiting = w; count = sum }); flash = a.flash })
    a)
