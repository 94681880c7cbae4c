-- Laws of an upload as a whole: the bytes accepted since its write at zero lie in flash as one overlay, but for those that wait, and a
-- finalize lays these too. Why: each commit lays its bytes where the ones before end (`overlay-overlay`). All over the page.
use mathlib.Core.Path.{◌≡◌, refl, sym, ap, ◌∙◌}
use mathlib.Core.List.{List, [], ◌∷◌, ◌++◌, append_assoc, append-nil}
use Prim.Native.Nat.{ℕ, ◌+◌, ◌-◌, ◌%◌, ◌<◌, ◌≤◌}
use native.Mathlib.Omega.{arith}
use native.Mathlib.Nat.{div-add-mod', zero-mod}
use lib.Dec.{eqb}
use lib.ListN.{length, take, drop, get_or, length-append, length-take, length-drop, get_or-append}
use lib.Seq.{take_at, drop_at, length-take-le, take-append-le, drop-append-le, drop-append-add, get_or-append-add, get_or-take, get_or-drop}
use borrow.Author.Tests.{eqb-true, eqb-false}
use Rattle.rules.specs.Bytes.{overlay}
use Rattle.rules.specs.Profile.{Profile}
use Rattle.rules.specs.State.{Upload, fresh_upload}
use Rattle.rules.specs.Commit.{Progress, page_start, taken, taken_all, finalized}
use Rattle.laws.proofs.BytesLaws.{length-zero, length-overlay, overlay_none, overlay-overlay}
use Rattle.laws.proofs.CommitLaws.{placed, committed-overlay}
use Rattle.laws.proofs.StateLaws.{ProfileFacts, UploadFacts}
use Rattle.laws.proofs.TestLaws.{by_test}
use Rattle.laws.proofs.UploadLaws.{suc-mod_inner, more, length_more, more_fitting, waiting_committed, next_committed}
use Rattle.laws.proofs.UploadLaws.{next_taken, formed_fitting, taken_all_kept}

-- an upload of which the image's bytes are accepted so far, over the flash d that it began with: the first of them are done, the others
-- wait
pub record Stands (p : Profile) (d image : List ℕ) (g : Progress) : Type 0 where
  pub done : List ℕ
  pub parts : image ≡ done ++ g.upload.waiting
  pub next_is : g.upload.next ≡ length image
  pub flash_is : g.flash ≡ overlay d p.offset done

-- an upload begins
abbrev pub begins : List ℕ → Progress
begins d = record { upload = fresh_upload; flash = d }

pub begins-stands : (p : Profile) (d : List ℕ) → Stands p d [] (begins d)
begins-stands p d = record { done = []; parts = refl; next_is = refl; flash_is = sym (overlay_none d p.offset) }

pub begins_formed : (p : Profile) → UploadFacts p.page p.size fresh_upload
begins_formed p = record { next_most = omega arith; waiting_most = omega arith; count_most = omega arith }

module _ (p : Profile) (d image : List ℕ) (g : Progress) (stands : Stands p d image g) where
  -- how many bytes are done
  pub done_length : length stands.done + length g.upload.waiting ≡ g.upload.next
  done_length = omega (arith, stands.next_is, ap length stands.parts, length-append stands.done g.upload.waiting)

  -- the waiting bytes, with more behind them, laid where they belong
  pub laid_on : (u : Upload) (ws : List ℕ) → placed p u ≡ p.offset + length stands.done
      → p.offset + length stands.done + length ws ≤ length d
      → overlay g.flash (placed p u) ws ≡ overlay d p.offset (stands.done ++ ws)
  laid_on u ws at room = rw (stands.flash_is, at) (overlay-overlay d p.offset stands.done ws room)

  pub flash_length : p.offset + length stands.done ≤ length d → length g.flash ≡ length d
  flash_length room = rw stands.flash_is (length-overlay d p.offset stands.done room)

  module _ (facts : ProfileFacts p) (room : p.offset + p.size ≤ length d) (formed : UploadFacts p.page p.size g.upload) where
    pub lent : p.offset + p.size ≤ length g.flash
    lent = omega (arith, flash_length (omega (arith, done_length, formed.next_most)))

    -- one byte more
    pub taken-stands : (b : ℕ) → g.upload.next < p.size → Stands p d (image ++ b ∷ []) (taken p g b)
    unfolding taken
    taken-stands b below =
        let ws : List ℕ = g.upload.waiting ++ (b ∷ []) in
        let many : length ws ≡ length g.upload.waiting + 1 = length_more p facts g b in
        let all : image ++ b ∷ [] ≡ stands.done ++ ws = rw stands.parts (append_assoc stands.done g.upload.waiting (b ∷ [])) in
        let next : g.upload.next + 1 ≡ length (image ++ b ∷ []) = omega (arith, stands.next_is, length-append image (b ∷ [])) in
        by_test (eqb ((g.upload.next + 1) % p.page) 0)
        (λ e. rw (
          e,
          committed-overlay p (record { upload = more p facts g b; flash = g.flash })
              (more_fitting p facts g b lent formed below),
        )
        (record {
          done = stands.done ++ ws;
          parts = rw append-nil all;
          next_is = next;
          flash_is = laid_on (more p facts g b) ws (omega (arith, many, done_length)) (omega (arith, many, done_length));
        }))
        (λ e. rw e (record { done = stands.done; parts = all; next_is = next; flash_is = stands.flash_is }))

    -- a finalize lays the waiting bytes too
    pub finalized-stands : (finalized p g).flash ≡ overlay d p.offset image
    unfolding finalized
    finalized-stands =
        let u : Upload = g.upload in
        by_test (eqb (length g.upload.waiting) 0)
        (λ e. rw e (stands.flash_is ∙ ap (overlay d p.offset) (nothing_waits (eqb-true _ _ e))))
        (λ e. rw (e, committed-overlay p g (formed_fitting p facts g lent formed))
        (laid_on u u.waiting (omega (arith, done_length)) (omega (arith, done_length, formed.next_most))
        ∙ ap (overlay d p.offset) (sym stands.parts)))
      where
        nothing_waits : length g.upload.waiting ≡ 0 → stands.done ≡ image
        nothing_waits e =
            sym (stands.parts ∙ ap (λ (ws : List ℕ). stands.done ++ ws) (length-zero g.upload.waiting e) ∙ append-nil stands.done)

module _ (p : Profile) (facts : ProfileFacts p) (d : List ℕ) (room : p.offset + p.size ≤ length d) where
  -- many bytes more
  pub taken_all-stands : (image : List ℕ) (g : Progress) (bs : List ℕ) → Stands p d image g → UploadFacts p.page p.size g.upload
      → g.upload.next + length bs ≤ p.size → Stands p d (image ++ bs) (taken_all p g bs)
  unfolding taken_all
  taken_all-stands image g [] stands formed below = rw append-nil stands
  taken_all-stands image g (b ∷ bs) stands formed below =
      let one = taken_all_kept p facts g (b ∷ []) (lent p d image g stands facts room formed) formed (omega arith) in
      rw (← append_assoc image (b ∷ []) bs)
      (taken_all-stands (image ++ b ∷ []) (taken p g b) bs (taken-stands p d image g stands facts room formed b (omega arith)) one.formed
      (omega (arith, next_taken p g b)))

  -- a finished upload: the image stands in flash, and every other byte is as it was
  pub finished_flash : (image : List ℕ) → length image ≤ p.size
      → (finalized p (taken_all p (begins d) image)).flash ≡ overlay d p.offset image
  finished_flash image fits =
      let kept = taken_all_kept p facts (begins d) image room (begins_formed p) (omega arith) in
      finalized-stands p d image (taken_all p (begins d) image)
      (taken_all-stands [] (begins d) image (begins-stands p d) (begins_formed p) (omega arith)) facts room kept.formed

-- what waits: without a finalize in between, all bytes since the last end of a page

module _ (p : Profile) (pos : 0 < p.page) where
  taken_unbroken : (g : Progress) (b : ℕ) → length g.upload.waiting ≡ g.upload.next % p.page
      → length (taken p g b).upload.waiting ≡ (taken p g b).upload.next % p.page
  unfolding taken
  taken_unbroken g b full =
      let long = length-append g.upload.waiting (b ∷ []) in
      by_test (eqb ((g.upload.next + 1) % p.page) 0)
      (λ e. rw (e, waiting_committed, next_committed) (sym (eqb-true _ _ e)))
      (λ e. rw e (omega (arith, long, full, suc-mod_inner p.page g.upload.next pos (eqb-false _ _ e))))

  pub taken_all_unbroken : (g : Progress) (bs : List ℕ) → length g.upload.waiting ≡ g.upload.next % p.page
      → length (taken_all p g bs).upload.waiting ≡ (taken_all p g bs).upload.next % p.page
  unfolding taken_all
  taken_all_unbroken g [] full = full
  taken_all_unbroken g (b ∷ bs) full = taken_all_unbroken (taken p g b) bs (taken_unbroken g b full)

-- an upload from zero, before its finalize: the whole pages are in flash, the rest waits
pub record Paged (p : Profile) (d image : List ℕ) (g : Progress) : Type 0 where
  pub next_is : g.upload.next ≡ length image
  pub waiting_is : g.upload.waiting ≡ drop (page_start p.page (length image)) image
  pub flash_is : g.flash ≡ overlay d p.offset (take (page_start p.page (length image)) image)

pub taken_all-paged : (p : Profile) → ProfileFacts p → (d : List ℕ) → p.offset + p.size ≤ length d → (image : List ℕ)
    → length image ≤ p.size
    → Paged p d image (taken_all p (begins d) image)
taken_all-paged p facts d room image fits =
    let g : Progress = taken_all p (begins d) image in
    let stands : Stands p d image g =
    taken_all-stands p facts d room [] (begins d) image (begins-stands p d) (begins_formed p) (omega arith) in
    let full = taken_all_unbroken p facts.page_least (begins d) image (sym (zero-mod p.page)) in
    let many : length stands.done ≡ page_start p.page (length image) =
    omega (
      arith,
      done_length p d image g stands,
      stands.next_is,
      full
          ∙ ap (λ (n : ℕ). n % p.page) stands.next_is,
      div-add-mod' (length image) p.page,
    ) in
    record {
      next_is = stands.next_is;
      waiting_is =
          sym (ap (drop (page_start p.page (length image))) stands.parts ∙ drop_at stands.done g.upload.waiting _ many);
      flash_is =
          stands.flash_is ∙ ap (overlay d p.offset)
          (sym (ap (take (page_start p.page (length image))) stands.parts ∙ take_at stands.done g.upload.waiting _ many));
    }
