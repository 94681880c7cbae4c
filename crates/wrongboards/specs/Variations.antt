-- The board of the rules with one part exchanged: the judgement on a frame, the rule of a command, or the commit.
-- With the rules' own parts it is the board of the rules (`varied_right`).
use Rattle.std.specs.Prelude.{◌≡◌, Bool, false, cond, ◌&&◌, List, [], ◌∷◌, ◌++◌, ℕ, ◌+◌, ◌%◌, eqb, length, drop}
use Rattle.rules.specs.declared.kinds.Verdict.{Verdict}
use Rattle.rules.specs.Profile.{Profile}
use Rattle.rules.specs.State.{State, Upload, fresh, with_upload}
use Rattle.rules.specs.Numbers.{refusal}
use Rattle.rules.specs.Frames.{destination, verdict, is_command, command_of, arguments_of, number_at, two_bytes}
use Rattle.rules.specs.Commit.{Progress, committed}
use Rattle.rules.specs.Responses.{Reply, Acted, ok, invalid_arguments, replying}
use Rattle.rules.specs.Commands.{length_allowed, accepted, restarted, executed}
use Rattle.rules.specs.Board.{Called, finished_call, handled, refused}
use Rattle.ledger.specs.Calls.{Call, Frame, Read, Reaction, Board, reaction, calls}

-- what a frame by its verdict does, as the rules' `handled`
abbrev pub Handling : Type 0
Handling = Profile → State → ℕ → List ℕ → List ℕ → Verdict → Called

-- what a command does, as the rules' `executed`
abbrev pub Rule : Type 0
Rule = Profile → State → ℕ → List ℕ → List ℕ → Acted

-- how waiting bytes reach flash, as the rules' `committed`
abbrev pub Commit : Type 0
Commit = Profile → Progress → Progress

-- what the board does with a call, by another judgement on frames
abbrev pub handling_by : Handling → Profile → State → List ℕ → Call → Reaction State
handling_by judge p s d (Frame a f n) =
    reaction (cond (eqb (refusal p s (length d) n) 0)
    (judge p s a f d (verdict p.bus p.longest s.running s.address a f))
    (refused (refusal p s (length d) n) s d))
handling_by judge p s d (Read a n) = calls p s d (Read a n)

-- a board that keeps a state and shows the state's count
abbrev pub board_by : (Profile → State → List ℕ → Call → Reaction State) → Board
board_by call = record { Kept = State; fresh = fresh; count = λ s. s.upload.count; call = call }

-- W8: the same profile with another page, and the rules' board under the page that is made of its profile's
abbrev pub with_page : Profile → ℕ → Profile
with_page p page = record {
  bus = p.bus;
  longest = p.longest;
  page = page;
  size = p.size;
  offset = p.offset;
  hardware = p.hardware;
  compatible = p.compatible;
  actual = p.actual;
  version = p.version;
  serial = p.serial;
}

abbrev pub paged_by : (ℕ → ℕ) → Board
paged_by change = board_by (λ p s d c. calls (with_page p (change p.page)) s d c)

-- the call is a frame with this command
abbrev pub asks : Profile → Call → ℕ → Bool
asks p (Frame a f n) code = eqb (command_of p.bus f) code
asks p (Read a n) code = false

-- another rule for the well-framed commands
abbrev pub executing : Rule → Handling
executing rule p s a f d v =
    cond (is_command v)
    (finished_call p.bus (destination p.bus a f) (rule p s (command_of p.bus f) (arguments_of p.bus f) d))
    (handled p s a f d v)

-- another commit, in the commands that commit
module _ (commit : Commit) where
  abbrev pub taken_by : Profile → Progress → ℕ → Progress
  taken_by p g b =
      let u : Upload = g.upload in
      let more : Progress =
      record { upload = record { next = u.next + 1; waiting = u.waiting ++ (b ∷ []); count = u.count }; flash = g.flash } in
      cond (eqb ((u.next + 1) % p.page) 0) (commit p more) more

  abbrev pub taken_all_by : Profile → Progress → List ℕ → Progress
  taken_all_by p g [] = g
  taken_all_by p g (b ∷ bs) = taken_all_by p (taken_by p g b) bs

  abbrev pub finalized_by : Profile → Progress → Progress
  finalized_by p g = cond (eqb (length g.upload.waiting) 0) g (commit p g)

  abbrev pub written_by : Profile → State → List ℕ → List ℕ → Acted
  written_by p s args d =
      let address : ℕ = number_at args 0 in
      let bytes : List ℕ = drop 2 args in
      let g : Progress = taken_all_by p (record { upload = restarted address s.upload; flash = d }) bytes in
      cond (accepted p.size s.upload.next address (length bytes))
      (record { response = Reply ok []; state = with_upload s g.upload; flash = g.flash })
      (replying s d invalid_arguments [])

  abbrev pub finished_by : Profile → State → List ℕ → Acted
  finished_by p s d =
      let g : Progress = finalized_by p (record { upload = s.upload; flash = d }) in
      record { response = Reply ok (two_bytes g.upload.count); state = with_upload s g.upload; flash = g.flash }

  abbrev pub committing : Rule
  committing p s code args d =
      cond (eqb code 0x06 && length_allowed code (length args)) (written_by p s args d)
      (cond (eqb code 0x07 && length_allowed code (length args)) (finished_by p s d)
      (executed p s code args d))

-- the board of the rules with another rule, and with another commit
abbrev pub ruled_by : Rule → Board
ruled_by rule = board_by (handling_by (executing rule))

abbrev pub committed_by : Commit → Board
committed_by commit = ruled_by (committing commit)

-- with the rules' own parts nothing is varied
pub record VariedRight : Type 0 where
  pub by_judgement : (p : Profile) (s : State) (d : List ℕ) (c : Call) → handling_by handled p s d c ≡ calls p s d c
  pub by_rule : (p : Profile) (s : State) (d : List ℕ) (c : Call) → handling_by (executing executed) p s d c ≡ calls p s d c
  pub by_page : (p : Profile) (s : State) (d : List ℕ) (c : Call) → (paged_by (λ page. page)).call p s d c ≡ calls p s d c
  pub by_commit : (p : Profile) (s : State) (d : List ℕ) (c : Call) → handling_by (executing (committing committed)) p s d c ≡ calls p s d c
