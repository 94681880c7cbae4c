-- A variation by the rules' own parts is the board of the rules: by cases of the verdict and of the command's code.
use mathlib.Core.Path.{◌≡◌, refl, sym, ap, ◌∙◌}
use mathlib.Core.Bool.{Bool, true, false, cond, ◌&&◌}
use mathlib.Core.List.{List, [], ◌∷◌}
use Prim.Native.Nat.{ℕ}
use lib.Dec.{eqb}
use lib.ListN.{length}
use borrow.Author.Tests.{eqb-true}
use Rattle.rules.specs.declared.kinds.Verdict.{Verdict}
use Rattle.rules.specs.declared.kinds.Verdict.TheVariants.{Reset, ResetAddress, Ignored, BadTransfer, BadSum, Command}
use Rattle.rules.specs.Profile.{Profile}
use Rattle.rules.specs.State.{State}
use Rattle.rules.specs.Numbers.{refusal}
use Rattle.rules.specs.Frames.{destination, verdict, is_command, command_of, arguments_of}
use Rattle.rules.specs.Commit.{Progress, committed, taken, taken_all, finalized}
use Rattle.rules.specs.Responses.{Acted}
use Rattle.rules.specs.Commands.{tabled, length_allowed, written, finished, performed, executed}
use Rattle.rules.specs.Board.{Called, finished_call, handled, received, refused}
use Rattle.ledger.specs.Calls.{Call, Frame, Read, reaction, calls}
use Rattle.wrongboards.specs.Variations.{Handling, handling_by, executing, taken_all_by, written_by, committing, VariedRight}

handling_by-handled : (p : Profile) (s : State) (d : List ℕ) (c : Call) → handling_by handled p s d c ≡ calls p s d c
unfolding received
handling_by-handled p s d (Frame a f n) = refl
handling_by-handled p s d (Read a n) = refl

executing-executed : (p : Profile) (s : State) (a : ℕ) (f d : List ℕ) (v : Verdict) → executing executed p s a f d v ≡ handled p s a f d v
unfolding handled
executing-executed p s a f d Reset = refl
executing-executed p s a f d ResetAddress = refl
executing-executed p s a f d (Ignored reason) = refl
executing-executed p s a f d BadTransfer = refl
executing-executed p s a f d BadSum = refl
executing-executed p s a f d Command = refl

taken_all_by-committed : (p : Profile) (g : Progress) (bytes : List ℕ) → taken_all_by committed p g bytes ≡ taken_all p g bytes
unfolding taken taken_all
taken_all_by-committed p g [] = refl
taken_all_by-committed p g (b ∷ bs) = taken_all_by-committed p (taken p g b) bs

written_by_lem : (p : Profile) (s : State) (args d : List ℕ) → written_by committed p s args d ≡ written p s args d
unfolding written
written_by_lem p s args d = rw taken_all_by-committed

-- a command of one code, told apart from the rest
distinguished : (p : Profile) (s : State) (code : ℕ) (args d : List ℕ) (k : ℕ) (x y : Acted)
    → (length_allowed k (length args) ≡ true → x ≡ executed p s k args d) → y ≡ executed p s code args d
    → cond (eqb code k && length_allowed code (length args)) x y ≡ executed p s code args d
distinguished p s code args d k x y here there = go (eqb code k) refl (length_allowed code (length args)) refl
  where
    go : (b : Bool) → eqb code k ≡ b → (l : Bool) → length_allowed code (length args) ≡ l → cond (b && l) x y ≡ executed p s code args d
    go true e true h = let same = eqb-true code k e in here (rw (sym same) h) ∙ ap (λ (n : ℕ). executed p s n args d) (sym same)
    go true e false h = there
    go false e true h = there
    go false e false h = there

committing-committed : (p : Profile) (s : State) (code : ℕ) (args d : List ℕ)
    → committing committed p s code args d ≡ executed p s code args d
unfolding executed performed tabled finished finalized
committing-committed p s code args d =
    distinguished p s code args d 0x06 _ _ (λ h. rw h (written_by_lem p s args d)) (distinguished p s code args d 0x07 _ _ (λ h. rw h) refl)

-- judgements that agree make the same board
handling_by-same : (j k : Handling) → ((p : Profile) (s : State) (a : ℕ) (f d : List ℕ) (v : Verdict) → j p s a f d v ≡ k p s a f d v)
    → (p : Profile) (s : State) (d : List ℕ) (c : Call) → handling_by j p s d c ≡ handling_by k p s d c
handling_by-same j k e p s d (Frame a f n) =
    ap (λ (x : Called). reaction (cond (eqb (refusal p s (length d) n) 0) x (refused (refusal p s (length d) n) s d)))
    (e p s a f d (verdict p.bus p.longest s.running s.address a f))
handling_by-same j k e p s d (Read a n) = refl

handling_by-executed : (p : Profile) (s : State) (d : List ℕ) (c : Call) → handling_by (executing executed) p s d c ≡ calls p s d c
handling_by-executed p s d c = handling_by-same (executing executed) handled executing-executed p s d c ∙ handling_by-handled p s d c

executing-committed : (p : Profile) (s : State) (a : ℕ) (f d : List ℕ) (v : Verdict)
    → executing (committing committed) p s a f d v ≡ executing executed p s a f d v
executing-committed p s a f d v =
    ap (λ (x : Acted). cond (is_command v) (finished_call p.bus (destination p.bus a f) x) (handled p s a f d v))
    (committing-committed p s (command_of p.bus f) (arguments_of p.bus f) d)

pub varied_right : VariedRight
varied_right = record {
  by_judgement = handling_by-handled;
  by_rule = handling_by-executed;
  by_page = λ p s d c. refl;
  by_commit =
      λ p s d c. handling_by-same (executing (committing committed)) (executing executed) executing-committed p s d c
      ∙ handling_by-executed p s d c;
}
