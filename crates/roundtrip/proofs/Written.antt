-- The writes of an upload: each is accepted, since it begins at zero or where the one before ended, and its bytes join those before
-- (`taken_all-append`). So the board stands as if all bytes so far had come in one write, and is ready for the next.
use mathlib.Core.Path.{◌≡◌, refl, sym, ap, ◌∙◌}
use mathlib.Core.Bool.{true, ◌||◌}
use mathlib.Core.List.{List, [], ◌∷◌, ◌++◌, append_assoc, append-nil}
use Prim.Native.Nat.{ℕ, ◌+◌, ◌≤◌}
use native.Mathlib.Omega.{arith}
use native.Mathlib.Nat.{div-add-mod'}
use lib.Dec.{eqb}
use lib.ListN.{length, take, drop, length-append, length-drop, take-append-drop}
use lib.Seq.{length-take-le}
use borrow.Author.Tests.{eq-eqb, ne_eqb, le-leb}
use Rattle.rules.specs.declared.requests.Request.TheVariants.{Write}
use Rattle.rules.specs.Profile.{Profile}
use Rattle.rules.specs.State.{State, with_upload}
use Rattle.rules.specs.Commit.{Progress, taken_all}
use Rattle.rules.specs.Frames.{two_bytes, number_at}
use Rattle.rules.specs.Responses.{Reply, ok}
use Rattle.rules.specs.Commands.{restarted, written, performed}
use Rattle.laws.proofs.CommitLaws.{taken_all-append}
use Rattle.laws.proofs.TestLaws.{by_test}
use Rattle.laws.proofs.UploadLaws.{next_taken_all}
use Rattle.laws.proofs.StateLaws.{ProfileFacts, refusal_unrefused, unrefused_profile}
use Rattle.laws.proofs.ImageLaws.{begins}
use Rattle.roundtrip.specs.Exchanges.{Line, Board, Ready, Message, sending, after, exchanges, left, EachOk}
use Rattle.roundtrip.specs.UploadRoundtrip.{total, EachMost, writes}
use Rattle.roundtrip.specs.Longest.{data_most}
use Rattle.roundtrip.proofs.Exchange.{Exchanged, exchange}
use Rattle.roundtrip.proofs.Encodes.{write_made}

-- the upload that a write at this place goes on with
abbrev pub resumed : ℕ → Board → Progress
resumed at b = record { upload = restarted at b.state.upload; flash = b.flash }

-- the board is ready, and the upload has taken the bytes so far from the flash d on; before the first byte the board's upload may be any
pub record Going (l : Line) (d front : List ℕ) (b : Board) : Type 0 where
  pub ready : Ready l b
  pub resumes : resumed (length front) b ≡ taken_all l.profile (begins d) front

pub going_begins : (l : Line) (b : Board) → Ready l b → Going l b.flash [] b
unfolding taken_all
going_begins l b ready = record { ready = ready; resumes = refl }

-- an upload from zero goes on with itself
restarted-taken_all : (p : Profile) (d image : List ℕ)
    → ◌≡◌ {A = Progress}
    (record { upload = restarted (length image) (taken_all p (begins d) image).upload; flash = (taken_all p (begins d) image).flash })
    (taken_all p (begins d) image)
unfolding taken_all
restarted-taken_all p d [] = refl
restarted-taken_all p d (y ∷ ys) = rw (ne_eqb (length (y ∷ ys)) 0 (λ e. omega arith))

-- a write at a place where the upload stands
written-accepted : (p : Profile) (s : State) (at : ℕ) (bytes d : List ℕ) → (restarted at s.upload).next ≡ at → at + length bytes ≤ p.size
    → performed p s 0x06 (two_bytes at ++ bytes) d
    ≡ record {
      response = Reply ok [];
      state = with_upload s (taken_all p (record { upload = restarted at s.upload; flash = d }) bytes).upload;
      flash = (taken_all p (record { upload = restarted at s.upload; flash = d }) bytes).flash;
    }
unfolding performed written
written-accepted p s at bytes d next fits =
    let place : number_at (two_bytes at ++ bytes) 0 ≡ at = div-add-mod' at 256 in
    let follows : (eqb at 0 || eqb at s.upload.next) ≡ true =
    by_test (eqb at 0) (λ e. rw e) (λ e. let same = rw e at next in rw (e, eq-eqb at s.upload.next (sym same))) in
    rw (place, follows, le-leb (at + length bytes) p.size fits)

module _ (l : Line) (d : List ℕ) where
  -- one of them
  module _ (front : List ℕ) (b : Board) (going : Going l d front b) (bytes : List ℕ)
      (most : length bytes ≤ data_most l.profile.bus l.profile.longest) (fits : length front + length bytes ≤ l.profile.size) where
    abbrev write : Message
    write = record { request = Write (length front); bytes = bytes }

    abbrev g : Progress
    g = taken_all l.profile (resumed (length front) b) bytes

    facts : ProfileFacts l.profile
    facts = unrefused_profile (refusal_unrefused l.profile b.state (length b.flash) l.buffer going.ready.none_refused)

    next_is : (restarted (length front) b.state.upload).next ≡ length front
    next_is = ap (λ (q : Progress). q.upload.next) going.resumes ∙ next_taken_all l.profile (begins d) front ∙ omega arith

    write_exchanged : Exchanged l (sending l b write) g.upload g.flash []
    write_exchanged =
        exchange l b going.ready write 0x06 (two_bytes (length front) ++ bytes) [] g.upload g.flash
        (write_made l b going.ready (length front) (omega (arith, facts.size_most)) bytes most) refl (λ e. absurd (omega arith))
        (written-accepted l.profile b.state (length front) bytes b.flash next_is fits)

    write_going : Going l d (front ++ bytes) (after (sending l b write))
    write_going =
        let all : g ≡ taken_all l.profile (begins d) (front ++ bytes) =
        ap (λ (q : Progress). taken_all l.profile q bytes) going.resumes ∙ sym (taken_all-append l.profile (begins d) front bytes) in
        record {
          ready = write_exchanged.ready;
          resumes = rw (write_exchanged.upload_is, write_exchanged.flash_is, all) (restarted-taken_all l.profile d (front ++ bytes));
        }

  -- all of them
  pub written_all : (plan front rest : List ℕ) (b : Board) (at : ℕ) → at ≡ length front → Going l d front b
      → EachMost (data_most l.profile.bus l.profile.longest) plan → total plan ≡ length rest
      → length front + length rest ≤ l.profile.size
      → EachOk (exchanges l b (writes at rest plan)) × Going l d (front ++ rest) (left l b (writes at rest plan))
  unfolding exchanges left
  written_all [] front [] b at is going each whole fits = (tt, rw append-nil going)
  written_all [] front (r ∷ rest) b at is going each whole fits = absurd (omega arith)
  written_all (k ∷ plan) front rest b at is going each whole fits =
      let many : length (take k rest) ≡ k = length-take-le k rest (omega arith) in
      let first = write_exchanged front b going (take k rest) (omega (arith, each.0)) (omega arith) in
      let on = write_going front b going (take k rest) (omega (arith, each.0)) (omega arith) in
      let end : length front + k ≡ length (front ++ take k rest) = simp length-append (omega arith) in
      let others =
      written_all plan (front ++ take k rest) (drop k rest)
      (after (sending l b (record { request = Write (length front); bytes = take k rest }))) (length front + k) end on each.1
      (simp length-drop (omega arith)) (simp (length-append, length-drop) (omega arith)) in
      let split : (front ++ take k rest) ++ drop k rest ≡ front ++ rest = rw (append_assoc, take-append-drop) in
      rw is ((first.answered_ok_holds, others.0), rw split at others.1)
