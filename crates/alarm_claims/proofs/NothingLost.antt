-- Nothing is lost where each byte that waited waits or stands in flash at its place.
use mathlib.Core.Path.{◌≡◌, refl, ap, ◌∙◌}
use mathlib.Core.Bool.{true, false, not, and-false}
use mathlib.Core.List.{List, [], ◌∷◌}
use Prim.Native.Nat.{ℕ, suc, ◌+◌, ◌-◌, ◌<◌, ◌≤◌}
use native.Mathlib.Nat.{add-zero}
use native.Mathlib.Omega.{arith}
use lib.Dec.{eqb}
use lib.ListN.{length, get_or, drop, length-drop}
use lib.Seq.{get_or-drop}
use borrow.Author.Tests.{lt-ltb, le-leb, eq-eqb}
use Rattle.rules.specs.State.{Upload}
use Rattle.rules.specs.Bytes.{overlay}
use Rattle.rules.specs.Commit.{Progress, finalized}
use Rattle.rules.specs.Commands.{finished}
use Rattle.laws.proofs.BytesLaws.{length-overlay}
use Rattle.laws.proofs.OverlayLaws.{get_or-overlay_inside}
use Rattle.laws.proofs.CommitLaws.{standing, none_waiting, raise, committed-overlay}
use Rattle.laws.proofs.StateLaws.{refusal_unrefused, unrefused_profile, unrefused_state}
use Rattle.laws.proofs.TestLaws.{by_test}
use Rattle.laws.proofs.UploadLaws.{formed_fitting}
use Rattle.byte_parts.specs.Parts.{stands_at}
use Rattle.lost_bytes.specs.Lost.{first_waiting, waits_at, lost_byte, lost_from, lost_bytes}
use Rattle.alarm_claims.specs.Claims.{KeptLosesNothing, FinalizeLosesNothing}

-- a byte that is there stands there
stands : (l : List ℕ) (i b : ℕ) → i < length l → get_or l i 0 ≡ b → stands_at l i b ≡ true
stands l i b h e = rw (lt-ltb i (length l) h, eq-eqb (get_or l i 0) b e)

-- none of the bytes is lost
none_lost : (flash : List ℕ) (first : ℕ) (waiting : List ℕ) (address : ℕ) (bytes : List ℕ)
    → ((i : ℕ) → i < length bytes → lost_byte flash first waiting (address + i) (get_or bytes i 0) ≡ false)
    → lost_from flash first waiting address bytes ≡ 0
unfolding lost_from
none_lost flash first waiting address [] h = refl
none_lost flash first waiting address (b ∷ bs) h =
    let here : lost_byte flash first waiting address b ≡ false = rw add-zero at (h 0 (omega arith)) in
    let behind =
    none_lost flash first waiting (address + 1) bs
    (λ i below.
    let place : address + suc i ≡ address + 1 + i = omega arith in
    rw place at (h (suc i) (omega arith))) in
    rw (here, behind)

-- bytes that wait as before
pub kept_loses_nothing : KeptLosesNothing
kept_loses_nothing O u d =
    none_lost (drop O d) (first_waiting u) u.waiting (first_waiting u) u.waiting
    (λ i below.
    let place : first_waiting u + i - first_waiting u ≡ i = omega arith in
    let there : stands_at u.waiting (first_waiting u + i - first_waiting u) (get_or u.waiting i 0) ≡ true =
    rw place (stands u.waiting i (get_or u.waiting i 0) below refl) in
    rw (le-leb (first_waiting u) (first_waiting u + i) (omega arith), there))

-- bytes that are laid over the flash at their place
laid_loses_nothing : (O : ℕ) (u after : Upload) (d : List ℕ) → O + (u.next - length u.waiting) + length u.waiting ≤ length d
    → lost_bytes O u after (overlay d (O + (u.next - length u.waiting)) u.waiting) ≡ 0
laid_loses_nothing O u after d fits =
    let at : ℕ = O + first_waiting u in
    let new : List ℕ = overlay d at u.waiting in
    none_lost (drop O new) (first_waiting after) after.waiting (first_waiting u) u.waiting
    (λ i below.
    let place : O + (first_waiting u + i) ≡ at + i = omega arith in
    let inside : get_or (drop O new) (first_waiting u + i) 0 ≡ get_or u.waiting i 0 =
    get_or-drop O new (first_waiting u + i) 0 ∙ ap (λ (n : ℕ). get_or new n 0) place ∙ get_or-overlay_inside d at u.waiting fits i below in
    let long : first_waiting u + i < length (drop O new) =
    omega (arith, length-drop O new, length-overlay d at u.waiting fits) in
    let there = stands (drop O new) (first_waiting u + i) (get_or u.waiting i 0) long inside in
    rw there (and-false (not (waits_at (first_waiting after) after.waiting (first_waiting u + i) (get_or u.waiting i 0)))))

-- a finalize: nothing waits, or the waiting bytes are laid over the flash
pub finalize_loses_nothing : FinalizeLosesNothing
unfolding finished finalized lost_from
finalize_loses_nothing p s d n e =
    let g : Progress = record { upload = s.upload; flash = d } in
    let un = refusal_unrefused p s (length d) n e in
    let f = formed_fitting p (unrefused_profile un) g un.flash_holds (unrefused_state un).upload in
    by_test (eqb (length s.upload.waiting) 0)
    (λ none. rw none (kept_loses_nothing p.offset s.upload d))
    (λ some.
    let after : Upload = none_waiting s.upload (raise (standing p g)) in
    rw (some, committed-overlay p g f)
    (laid_loses_nothing p.offset s.upload after d (omega (arith, f.room, f.next_le, f.held_le))))
