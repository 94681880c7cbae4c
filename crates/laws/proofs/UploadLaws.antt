-- Laws of an upload: next grows by the bytes taken, and a well-formed upload stays well formed over flash that keeps its length. Why: a
-- commit uses up at least one waiting byte, which pays for its count; the waiting bytes lie within one page.
use mathlib.Core.Path.{◌≡◌, refl, ap, ◌∙◌}
use mathlib.Core.Logic.{◌⊎◌, inl, inr}
use mathlib.Core.Bool.{Bool, true, false}
use mathlib.Core.List.{List, [], ◌∷◌, ◌++◌}
use Prim.Native.Nat.{ℕ, ◌+◌, ◌-◌, ◌*◌, ◌/◌, ◌%◌, ◌<◌, ◌≤◌}
use native.Mathlib.Omega.{arith}
use native.Mathlib.Nat.{div-add-mod', mod-lt, mod-le, mod-eq_of_lt, mul-add-mod_self_right}
use lib.Dec.{eqb}
use lib.ListN.{length, take, drop, length-append}
use borrow.Author.Tests.{eqb-true, eqb-false}
use Rattle.rules.specs.Bytes.{same, overlay}
use Rattle.rules.specs.Profile.{Profile}
use Rattle.rules.specs.State.{Upload}
use Rattle.rules.specs.Commit.{Progress, page_start, committed, taken, taken_all, finalized, Outside, OutsideKept}
use Rattle.laws.proofs.TestLaws.{by_test}
use Rattle.laws.proofs.BytesLaws.{length-overlay}
use Rattle.laws.proofs.OverlayLaws.{get_or-overlay_outside}
use Rattle.laws.proofs.CommitLaws.{Fitting, placed, standing, raise, raise-le, committed-overlay, suc-mod_below, suc-mod_end}
use Rattle.laws.proofs.StateLaws.{ProfileFacts, UploadFacts}

-- the page that a commit finds
abbrev found : Profile → Progress → List ℕ
found p g = take p.page (drop (p.offset + page_start p.page (g.upload.next - length g.upload.waiting)) g.flash)

-- next only grows by the bytes taken
pub next_committed : (p : Profile) (g : Progress) → (committed p g).upload.next ≡ g.upload.next
unfolding committed
next_committed p g =
    by_test (same (found p g) (overlay (found p g) ((g.upload.next - length g.upload.waiting) % p.page) g.upload.waiting))
    (λ e. rw e) (λ e. rw e)

-- and a commit leaves nothing waiting
pub waiting_committed : (p : Profile) (g : Progress) → (committed p g).upload.waiting ≡ []
unfolding committed
waiting_committed p g =
    by_test (same (found p g) (overlay (found p g) ((g.upload.next - length g.upload.waiting) % p.page) g.upload.waiting))
    (λ e. rw e) (λ e. rw e)

pub next_taken : (p : Profile) (g : Progress) (b : ℕ) → (taken p g b).upload.next ≡ g.upload.next + 1
unfolding taken
next_taken p g b = by_test (eqb ((g.upload.next + 1) % p.page) 0) (λ e. rw e (next_committed p _)) (λ e. rw e)

pub next_taken_all : (p : Profile) (g : Progress) (bs : List ℕ) → (taken_all p g bs).upload.next ≡ g.upload.next + length bs
unfolding taken_all
next_taken_all p g [] = omega arith
next_taken_all p g (b ∷ bs) = omega (arith, next_taken_all p (taken p g b) bs, next_taken p g b)

pub next_finalized : (p : Profile) (g : Progress) → (finalized p g).upload.next ≡ g.upload.next
unfolding finalized
next_finalized p g = by_test (eqb (length g.upload.waiting) 0) (λ e. rw e) (λ e. rw e (next_committed p g))

-- the place in its page of a byte that lies w before another
pub sub-mod : (page n w : ℕ) → 0 < page → w ≤ n % page → (n - w) % page ≡ n % page - w
sub-mod page n w pos h =
    let parts : n - w ≡ n / page * page + (n % page - w) = omega (arith, div-add-mod' n page) in
    ap (λ (m : ℕ). m % page) parts
    ∙ mul-add-mod_self_right (n / page) page (n % page - w)
    ∙ mod-eq_of_lt (omega (arith, mod-lt n pos))

-- and of the byte after one that is not the last of its page
pub suc-mod_inner : (page n : ℕ) → 0 < page → ((n + 1) % page ≡ 0 → ⊥) → (n + 1) % page ≡ n % page + 1
suc-mod_inner page n pos inner =
    by_test (eqb (n % page + 1) page)
    (λ e. absurd (inner (suc-mod_end page n (eqb-true _ _ e))))
    (λ e. suc-mod_below page n (let ne = eqb-false (n % page + 1) page e in omega (arith, mod-lt n pos)))

-- an upload that is well formed, and flash as long as d and with its bytes outside the working flash
pub record Kept (p : Profile) (d : List ℕ) (g : Progress) : Type 0 where
  pub formed : UploadFacts p.page p.size g.upload
  pub outside : OutsideKept p d g.flash

pub outside_refl : (p : Profile) (d : List ℕ) → OutsideKept p d d
outside_refl p d = record { length_kept = refl; bytes_kept = λ i out. refl }

pub outside_trans : {p : Profile} {d e f : List ℕ} → OutsideKept p d e → OutsideKept p e f → OutsideKept p d f
outside_trans one two = record {
  length_kept = two.length_kept ∙ one.length_kept;
  bytes_kept = λ i out. two.bytes_kept i out ∙ one.bytes_kept i out;
}

-- a commit writes within the working flash
overlay_outside : (p : Profile) (g : Progress) → Fitting p g
    → OutsideKept p g.flash (overlay g.flash (placed p g.upload) g.upload.waiting)
overlay_outside p g f = record {
  length_kept = length-overlay g.flash (placed p g.upload) g.upload.waiting fits;
  bytes_kept = λ i out. get_or-overlay_outside g.flash (placed p g.upload) g.upload.waiting fits i (beside i out);
}
  where
    fits : placed p g.upload + length g.upload.waiting ≤ length g.flash
    fits = omega (arith, f.room, f.next_le, f.held_le)

    beside : (i : ℕ) → Outside p i → (i < placed p g.upload) ⊎ (placed p g.upload + length g.upload.waiting ≤ i)
    beside i (inl below) = inl (omega arith)
    beside i (inr above) = inr (omega (arith, f.next_le, f.held_le))

-- a commit uses up at least one waiting byte, which pays for the count
committed_kept : (p : Profile) (g : Progress) → Fitting p g → 0 < length g.upload.waiting
    → g.upload.count ≤ g.upload.next - length g.upload.waiting → Kept p g.flash (committed p g)
committed_kept p g f some paid =
    rw (committed-overlay p g f)
    (record {
      formed =
          record { next_most = f.next_le; waiting_most = omega arith; count_most = omega (arith, raise-le (standing p g), f.held_le) };
      outside = overlay_outside p g f;
    })

-- one accepted byte: it joins the waiting ones, and at the end of a page all of them are committed
module _ (p : Profile) (facts : ProfileFacts p) (g : Progress) (b : ℕ) where
  -- the byte has joined
  abbrev pub more : Upload
  more = record { next = g.upload.next + 1; waiting = g.upload.waiting ++ (b ∷ []); count = g.upload.count }

  pub length_more : length more.waiting ≡ length g.upload.waiting + 1
  length_more = length-append g.upload.waiting (b ∷ [])

  module _ (room : p.offset + p.size ≤ length g.flash) (formed : UploadFacts p.page p.size g.upload)
      (below : g.upload.next < p.size) where
    pub more_fitting : Fitting p (record { upload = more; flash = g.flash })
    more_fitting =
        let pos : 0 < p.page = facts.page_least in
        let start : more.next - length more.waiting ≡ g.upload.next - length g.upload.waiting = omega (arith, length_more) in
        let place = sub-mod p.page g.upload.next (length g.upload.waiting) pos formed.waiting_most in
        record {
          page_pos = pos;
          sized = facts.size_paged;
          room = room;
          next_le = omega arith;
          held_le = omega (arith, length_more, formed.waiting_most, mod-le g.upload.next p.page);
          in_page = rw start (omega (arith, length_more, place, mod-lt g.upload.next pos, formed.waiting_most));
        }

    more_formed : ((g.upload.next + 1) % p.page ≡ 0 → ⊥) → UploadFacts p.page p.size more
    more_formed inner =
        let pos : 0 < p.page = facts.page_least in
        record {
          next_most = omega arith;
          waiting_most = omega (arith, length_more, formed.waiting_most, suc-mod_inner p.page g.upload.next pos inner);
          count_most = omega (arith, length_more, formed.count_most);
        }

    taken_kept : Kept p g.flash (taken p g b)
    unfolding taken
    taken_kept =
        by_test (eqb ((g.upload.next + 1) % p.page) 0)
        (λ e.
        rw e
        (committed_kept p (record { upload = more; flash = g.flash }) more_fitting (omega (arith, length_more))
        (omega (arith, length_more, formed.count_most))))
        (λ e. rw e (record { formed = more_formed (eqb-false _ _ e); outside = outside_refl p g.flash }))

module _ (p : Profile) (facts : ProfileFacts p) where
  pub taken_all_kept : (g : Progress) (bs : List ℕ) → p.offset + p.size ≤ length g.flash → UploadFacts p.page p.size g.upload
      → g.upload.next + length bs ≤ p.size → Kept p g.flash (taken_all p g bs)
  unfolding taken_all
  taken_all_kept g [] room formed below = record { formed = formed; outside = outside_refl p g.flash }
  taken_all_kept g (b ∷ bs) room formed below =
      let one = taken_kept p facts g b room formed (omega arith) in
      let all =
      taken_all_kept (taken p g b) bs (omega (arith, one.outside.length_kept)) one.formed (omega (arith, next_taken p g b)) in
      record { formed = all.formed; outside = outside_trans one.outside all.outside }

  -- the waiting bytes of a well-formed upload lie within one page
  pub formed_fitting : (g : Progress) → p.offset + p.size ≤ length g.flash → UploadFacts p.page p.size g.upload → Fitting p g
  formed_fitting g room formed =
      let u : Upload = g.upload in
      let pos : 0 < p.page = facts.page_least in
      let place = sub-mod p.page u.next (length u.waiting) pos formed.waiting_most in
      record {
        page_pos = pos;
        sized = facts.size_paged;
        room = room;
        next_le = formed.next_most;
        held_le = omega (arith, formed.waiting_most, mod-le u.next p.page);
        in_page = omega (arith, place, mod-lt u.next pos, formed.waiting_most);
      }

  pub finalized_kept : (g : Progress) → p.offset + p.size ≤ length g.flash → UploadFacts p.page p.size g.upload
      → Kept p g.flash (finalized p g)
  unfolding finalized
  finalized_kept g room formed =
      by_test (eqb (length g.upload.waiting) 0) (λ e. rw e (record { formed = formed; outside = outside_refl p g.flash }))
      (λ e.
      let some : length g.upload.waiting ≡ 0 → ⊥ = eqb-false _ _ e in
      rw e (committed_kept p g (formed_fitting g room formed) (omega arith) formed.count_most))
