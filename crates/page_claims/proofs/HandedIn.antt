-- A state handed in: refused by number 4 where it is malformed; else a finalize is executed, and its commit lays the waiting bytes.
use mathlib.Core.Path.{◌≡◌, refl, sym, ap}
use mathlib.Core.Bool.{true, false}
use mathlib.Core.List.{List, []}
use Prim.Native.Nat.{ℕ, ◌+◌, ◌≤◌}
use lib.Dec.{eqb}
use lib.ListN.{length}
use borrow.Author.Tests.{eqb-true, le-ltb}
use Rattle.rules.specs.Profile.{Profile, in_range}
use Rattle.rules.specs.State.{State, well_formed, with_upload}
use Rattle.rules.specs.Numbers.{refusal}
use Rattle.rules.specs.Frames.{destination, command_of, arguments_of, two_bytes, reply}
use Rattle.rules.specs.Commit.{Progress, finalized}
use Rattle.rules.specs.Responses.{ok}
use Rattle.rules.specs.Commands.{finished}
use Rattle.rules.specs.Board.{finished_call, refused, received, read_out}
use Rattle.ledger.specs.Calls.{Call, Frame, Read, ruled, reaction, calls}
use Rattle.laws.proofs.BytesLaws.{length-zero, overlay_none}
use Rattle.laws.proofs.BoardLaws.{with_reply-upload}
use Rattle.laws.proofs.CommitLaws.{committed-overlay}
use Rattle.laws.proofs.StateLaws.{refusal_unrefused, unrefused_profile, unrefused_state}
use Rattle.laws.proofs.TestLaws.{by_test}
use Rattle.laws.proofs.UploadLaws.{formed_fitting}
use Rattle.demands.specs.Past.{past_of, well_framed}
use Rattle.demands.proofs.Answered.{handled_command, finalize-finished}
use Rattle.page_claims.specs.Pages.{Laid, HandedIn}

-- number 4 of both calls
pub refused_malformed : (p : Profile) (s : State) (d : List ℕ) → in_range p ≡ true → p.offset + p.size ≤ length d
    → well_formed p s ≡ false
    → ((a : ℕ) (f : List ℕ) (n : ℕ) → received p s a f d n ≡ refused 4 s d) × ((a n : ℕ) → read_out p s a d n ≡ refused 4 s d)
unfolding received read_out refusal
refused_malformed p s d range room bad =
    (λ a f n. rw (range, le-ltb _ _ room, bad), λ a n. rw (range, le-ltb _ _ room, bad))

malformed : (p : Profile) (s : State) (d : List ℕ) (c : Call) → in_range p ≡ true → p.offset + p.size ≤ length d
    → well_formed p s ≡ false
    → calls p s d c ≡ record { number = 4; reply = []; state = s; flash = d }
malformed p s d (Frame a f n) range room bad = ap reaction ((refused_malformed p s d range room bad).0 a f n)
malformed p s d (Read a n) range room bad = ap reaction ((refused_malformed p s d range room bad).1 a n)

-- the progress of a finalize
laid-finalized : (p : Profile) (s : State) (d : List ℕ) (n : ℕ) → refusal p s (length d) n ≡ 0
    → let g : Progress = finalized p (record { upload = s.upload; flash = d }) in
    Laid p s.upload d g.upload g.flash
unfolding finalized
laid-finalized p s d n e =
    let g : Progress = record { upload = s.upload; flash = d } in
    let un = refusal_unrefused p s (length d) n e in
    let fitting = formed_fitting p (unrefused_profile un) g un.flash_holds (unrefused_state un).upload in
    by_test (eqb (length s.upload.waiting) 0)
    (λ none.
    let nothing = length-zero s.upload.waiting (eqb-true _ _ none) in
    rw none (record { flash_is = rw nothing (sym (overlay_none d _)); none_waits = nothing; next_kept = refl }))
    (λ some. rw (some, committed-overlay p g fitting) (record { flash_is = refl; none_waits = refl; next_kept = refl }))

-- a finalize that is heard, where none of 2 to 5 applies
received-finalize : (p : Profile) (s : State) (d : List ℕ) (a : ℕ) (f : List ℕ) (n : ℕ) → refusal p s (length d) n ≡ 0
    → well_framed p (past_of s) a f ≡ true → command_of p.bus f ≡ 0x07 → arguments_of p.bus f ≡ []
    → received p s a f d n ≡ finished_call p.bus (destination p.bus a f) (finished p s d)
unfolding received
received-finalize p s d a f n e heard is none =
    rw (e, handled_command p s a f heard d, is) (ap (finished_call p.bus (destination p.bus a f)) (finalize-finished p s _ d none))

pub laid : (p : Profile) (s : State) (d : List ℕ) (a : ℕ) (f : List ℕ) (n : ℕ) → refusal p s (length d) n ≡ 0
    → well_framed p (past_of s) a f ≡ true → command_of p.bus f ≡ 0x07 → arguments_of p.bus f ≡ []
    → ((received p s a f d n).number ≡ 0) × Laid p s.upload d (received p s a f d n).state.upload (received p s a f d n).flash
unfolding finished
laid p s d a f n e heard is none =
    let g : Progress = finalized p (record { upload = s.upload; flash = d }) in
    let left : State = with_upload s g.upload in
    let r : List ℕ = reply p.bus (destination p.bus a f) ok (two_bytes g.upload.count) in
    rw (received-finalize p s d a f n e heard is none, with_reply-upload p.bus left r) (refl, laid-finalized p s d n e)

pub handed_in : HandedIn ruled (λ s. s)
handed_in = record { malformed = malformed; finalized = laid }
