-- Boards that are right but for what a reset does or what a version request is answered, and a claim that is false of the rules.
use Rattle.std.specs.Prelude.{◌≡◌, Bool, true, false, cond, List, [], ◌∷◌, ℕ, eqb}
use Rattle.rules.specs.declared.kinds.Verdict.{Verdict}
use Rattle.rules.specs.declared.kinds.Verdict.TheVariants.{Reset, ResetAddress, Ignored, BadTransfer, BadSum, Command}
use Rattle.rules.specs.Profile.{Profile}
use Rattle.rules.specs.State.{State, fresh}
use Rattle.rules.specs.Frames.{reply, command_of}
use Rattle.rules.specs.Responses.{ok, replying}
use Rattle.rules.specs.Commands.{executed}
use Rattle.rules.specs.Board.{Called, nothing, address_reset, handled}
use Rattle.ledger.specs.Calls.{Call, Frame, Read, Reaction, Board, calls}
use Rattle.wrongboards.specs.Variations.{board_by, handling_by, ruled_by}
use Rattle.reset_claims.specs.Running.{SaysKnown}

-- a board that does something else with a reset
abbrev pub is_reset : Verdict → Bool
is_reset Reset = true
is_reset ResetAddress = false
is_reset (Ignored reason) = false
is_reset BadTransfer = false
is_reset BadSum = false
is_reset Command = false

abbrev pub resetting_by : (State → List ℕ → Called) → Board
resetting_by change = board_by (handling_by (λ p s a f d v. cond (is_reset v) (change s d) (handled p s a f d v)))

-- hears no reset while its application runs
abbrev pub ignores_reset : Board
ignores_reset = resetting_by (λ s d. nothing (cond s.running s fresh) d)

-- takes it for a reset address
abbrev pub resets_address : Board
resets_address = resetting_by (λ s d. nothing (address_reset s) d)

-- erases the flash
abbrev pub erases_flash : Board
erases_flash = resetting_by (λ s d. nothing fresh [])

-- answers the version request by 0.0
abbrev pub answers_zero : Board
answers_zero = ruled_by (λ p s code args d. cond (eqb code 0x00) (replying s d ok (0 ∷ 0 ∷ [])) (executed p s code args d))

-- hands out a reply that says 0.0 at every read
abbrev pub zero_read : Profile → State → List ℕ → Call → Reaction State
zero_read p s d (Frame a f n) = calls p s d (Frame a f n)
zero_read p s d (Read a n) = record { number = 0; reply = reply p.bus a ok (0 ∷ 0 ∷ []); state = s; flash = d }

abbrev pub reads_zero : Board
reads_zero = board_by zero_read

-- false: that a read says a known version after any frame with the version command, one that got no reply too
abbrev pub EveryReadKnown : Board → Type 0
EveryReadKnown B =
    (p : Profile) (s : B.Kept) (d : List ℕ) (a : ℕ) (f : List ℕ) (n b m : ℕ) → command_of p.bus f ≡ 0x00
    → let r : Reaction B.Kept = B.call p s d (Frame a f n) in
    SaysKnown p.bus b (B.call p r.state r.flash (Read b m)).reply
