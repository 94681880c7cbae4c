-- The erase count of an upload from zero is the number of changed pages. Why: the pages before lie in front, so a commit finds its page as
-- it was at the beginning (`drop-overlay`), and the bytes that wait are the image's bytes for that page. All over the page.
use mathlib.Core.Path.{◌≡◌, refl, sym, ap, ◌∙◌}
use mathlib.Core.Bool.{true}
use mathlib.Core.List.{List, [], ◌∷◌, ◌++◌, append_assoc, append-nil}
use Prim.Native.Nat.{ℕ, suc, ◌+◌, ◌*◌, ◌/◌, ◌%◌, ◌<◌, ◌≤◌}
use native.Mathlib.Omega.{arith}
use native.Mathlib.Nat.{div-add-mod', mod-lt, add-zero, add_comm, suc-mul, div-eq_of_lt-le, zero-div}
use native.Mathlib.Numerals.{add-one}
use lib.Dec.{eqb}
use lib.ListN.{length, take, drop, length-append, length-drop}
use lib.Seq.{length-take-le, take_all, drop-append-le}
use borrow.Author.Tests.{eqb-true, eqb-false, eq-eqb}
use Rattle.rules.specs.Bytes.{same}
use Rattle.rules.specs.Profile.{Profile}
use Rattle.rules.specs.State.{Upload}
use Rattle.rules.specs.Commit.{Progress, page_start, committed, taken, taken_all, finalized}
use Rattle.laws.proofs.BytesLaws.{length-zero}
use Rattle.laws.proofs.OverlayLaws.{drop-overlay}
use Rattle.laws.proofs.CommitLaws.{placed, standing, raise, committed-overlay, taken_all-append}
use Rattle.laws.proofs.StateLaws.{ProfileFacts}
use Rattle.laws.proofs.TestLaws.{by_test}
use Rattle.laws.proofs.UploadLaws.{suc-mod_inner, more, length_more, more_fitting, formed_fitting, taken_all_kept}
use Rattle.laws.proofs.ImageLaws.{begins, begins_formed, Paged, taken_all-paged}
use Rattle.laws.proofs.PageLaws.{div-suc_end}
use Rattle.changed_pages.specs.ChangedPages.{part_of, changed_page, changed_below, changed_pages}
use Rattle.changed_pages.proofs.Pages.{stood, changed_below-append, changed_below_past, length-changed_page}

-- how many of the first k pages change
abbrev changes : Profile → List ℕ → List ℕ → ℕ → ℕ
changes p d image k = length (changed_below p d image k)

-- a byte that ends no page leaves their number
div_below : (page n : ℕ) → 0 < page → ((n + 1) % page ≡ 0 → ⊥) → (n + 1) / page ≡ n / page
div_below page n pos inner =
    let next : (n / page + 1) * page ≡ n / page * page + page = rw add-one (suc-mul (n / page) page) in
    div-eq_of_lt-le page (omega (arith, div-add-mod' n page))
    (omega (arith, div-add-mod' n page, next, suc-mod_inner page n pos inner, mod-lt (n + 1) pos))

module _ (p : Profile) (facts : ProfileFacts p) (d : List ℕ) (room : p.offset + p.size ≤ length d) where
  pos : 0 < p.page
  pos = facts.page_least

  module _ (image : List ℕ) (fits : length image ≤ p.size) where
    abbrev before : Progress
    before = taken_all p (begins d) image

    abbrev n : ℕ
    n = length image

    paged : Paged p d image before
    paged = taken_all-paged p facts d room image fits

    -- the page that is filled now is in flash as at the beginning
    flash_ahead : drop (p.offset + page_start p.page n) before.flash ≡ drop (p.offset + page_start p.page n) d
    flash_ahead =
        let whole : length (take (page_start p.page n) image) ≡ page_start p.page n =
        length-take-le (page_start p.page n) image (omega (arith, div-add-mod' n p.page)) in
        rw paged.flash_is (rw whole at (drop-overlay d p.offset (take (page_start p.page n) image)
        (omega (arith, div-add-mod' n p.page)) (p.offset + length (take (page_start p.page n) image)) (omega arith)))

    waiting_length : length before.upload.waiting ≡ n % p.page
    waiting_length = rw paged.waiting_is (length-drop (page_start p.page n) image ∙ omega (arith, div-add-mod' n p.page))

    -- the waiting bytes, with others behind them, are that page of the image, and stand where it stood
    module _ (rest : List ℕ) (within : length (before.upload.waiting ++ rest) ≤ p.page) where
      waiting_page : before.upload.waiting ++ rest ≡ part_of p.page (image ++ rest) (n / p.page)
      waiting_page =
          let appended : drop (page_start p.page n) (image ++ rest) ≡ before.upload.waiting ++ rest =
          drop-append-le (page_start p.page n) image rest (omega (arith, div-add-mod' n p.page))
          ∙ ap (λ (ws : List ℕ). ws ++ rest) (sym paged.waiting_is) in
          sym (ap (take p.page) appended ∙ take_all p.page (before.upload.waiting ++ rest) within)

      standing-stood : (u : Upload) → u.waiting ≡ before.upload.waiting ++ rest → u.next ≡ n + length rest
          → standing p (record { upload = u; flash = before.flash }) ≡ stood p d (image ++ rest) (n / p.page)
      standing-stood u waits next =
          let long : length u.waiting ≡ n % p.page + length rest =
          ap length waits ∙ length-append before.upload.waiting rest ∙ rw waiting_length in
          let place : placed p u ≡ p.offset + page_start p.page n = omega (arith, div-add-mod' n p.page) in
          let page_is : u.waiting ≡ part_of p.page (image ++ rest) (n / p.page) = waits ∙ waiting_page in
          rw (place, flash_ahead, page_is)

  -- with one page more
  changes-suc : (image : List ℕ) (k : ℕ) → length image ≤ p.size
      → changes p d image (suc k) ≡ changes p d image k + raise (stood p d image k)
  unfolding changed_below
  changes-suc image k fits =
      length-append (changed_below p d image k) (changed_page p d image k)
      ∙ ap (λ (m : ℕ). changes p d image k + m) (length-changed_page p d image (omega arith) k)

  -- one byte more
  module _ (image : List ℕ) (b : ℕ) (below : length image < p.size)
      (counted : (taken_all p (begins d) image).upload.count ≡ changes p d image (length image / p.page)) where
    abbrev longer : List ℕ
    longer = image ++ b ∷ []

    fits : length image ≤ p.size
    fits = omega arith

    abbrev g : Progress
    g = taken_all p (begins d) image

    next_is : g.upload.next ≡ length image
    next_is = (paged image fits).next_is

    length-longer : length longer ≡ length image + 1
    length-longer = length-append image (b ∷ [])

    one_more : taken_all p (begins d) longer ≡ taken p g b
    unfolding taken_all
    one_more = taken_all-append p (begins d) image (b ∷ [])

    whole_pages : changes p d longer (length image / p.page) ≡ changes p d image (length image / p.page)
    whole_pages =
        ap length (changed_below-append p d image (b ∷ []) (length image / p.page) (omega (arith, div-add-mod' (length image) p.page)))

    -- a byte that ends a page
    counted_end : (length image + 1) % p.page ≡ 0
        → (taken_all p (begins d) longer).upload.count ≡ changes p d longer (length longer / p.page)
    unfolding taken
    counted_end e =
        let here : (g.upload.next + 1) % p.page ≡ 0 = rw next_is e in
        let kept = taken_all_kept p facts (begins d) image room (begins_formed p) (omega arith) in
        let filled : Progress = record { upload = more p facts g b; flash = g.flash } in
        let ends : taken p g b ≡ committed p filled = rw (eq-eqb _ _ here) in
        let laid =
        committed-overlay p filled
        (more_fitting p facts g b (omega (arith, kept.outside.length_kept)) kept.formed (omega (arith, next_is))) in
        let found : standing p filled ≡ stood p d longer (length image / p.page) =
        standing-stood image fits (b ∷ []) (omega (arith, length_more p facts g b, waiting_length image fits, mod-lt (length image) pos))
        (more p facts g b) refl (rw next_is) in
        let pages : length longer / p.page ≡ suc (length image / p.page) =
        rw length-longer (div-suc_end p.page (length image) pos e ∙ add-one _) in
        ap (λ (q : Progress). q.upload.count) (one_more ∙ ends ∙ laid)
        ∙ rw (found, counted, ← whole_pages, pages) (sym (changes-suc longer (length image / p.page) (omega (arith, length-longer))))

    counted-longer : (taken_all p (begins d) longer).upload.count ≡ changes p d longer (length longer / p.page)
    unfolding taken
    counted-longer =
        by_test (eqb ((length image + 1) % p.page) 0) (λ e. counted_end (eqb-true _ _ e))
        (λ e. rw (one_more, next_is, e, length-longer, div_below p.page (length image) pos (eqb-false _ _ e), whole_pages) counted)

  counted-all : (image bs : List ℕ) → length image + length bs ≤ p.size
      → (taken_all p (begins d) image).upload.count ≡ changes p d image (length image / p.page)
      → (taken_all p (begins d) (image ++ bs)).upload.count ≡ changes p d (image ++ bs) (length (image ++ bs) / p.page)
  counted-all image [] fits counted = rw append-nil counted
  counted-all image (b ∷ bs) fits counted =
      rw (← append_assoc image (b ∷ []) bs)
      (counted-all (image ++ b ∷ []) bs (simp length-append (omega arith)) (counted-longer image b (omega arith) counted))

  -- before the finalize: the whole pages that change
  taken_all_count : (image : List ℕ) → length image ≤ p.size
      → (taken_all p (begins d) image).upload.count ≡ changes p d image (length image / p.page)
  unfolding taken_all changed_below
  taken_all_count image fits = counted-all [] image (omega arith) (rw (zero-div p.page))

  -- after it: with the page that is not full, which has no bytes where the image ends with a page
  finalized_count : (image : List ℕ) → length image ≤ p.size
      → (finalized p (taken_all p (begins d) image)).upload.count ≡ changes p d image (suc (length image / p.page))
  unfolding finalized same
  finalized_count image fits =
      let g : Progress = taken_all p (begins d) image in
      let kept = taken_all_kept p facts (begins d) image room (begins_formed p) (omega arith) in
      let counted = taken_all_count image fits in
      let full : length g.upload.waiting ≡ length image % p.page = waiting_length image fits in
      let found : standing p g ≡ stood p d image (length image / p.page) =
      rw append-nil at
      (standing-stood image fits [] (simp length-append (omega (arith, full, mod-lt (length image) pos))) g.upload
      (sym (append-nil g.upload.waiting)) (omega (arith, (paged image fits).next_is))) in
      let last = changes-suc image (length image / p.page) fits in
      by_test (eqb (length g.upload.waiting) 0)
      (λ e.
      let none : g.upload.waiting ≡ [] = length-zero g.upload.waiting (eqb-true _ _ e) in
      let there : stood p d image (length image / p.page) ≡ true = sym found ∙ rw none in
      rw (e, last, there, add-zero) counted)
      (λ e.
      let fitting = formed_fitting p facts g (omega (arith, kept.outside.length_kept)) kept.formed in
      rw (e, committed-overlay p g fitting, last, found, counted))

  -- no page behind it changes: the number of all changed pages
  pub finished_count : (image : List ℕ) → length image ≤ p.size
      → (finalized p (taken_all p (begins d) image)).upload.count ≡ length (changed_pages p d image)
  finished_count image fits =
      let m : ℕ = p.size / p.page in
      let k : ℕ = suc (length image / p.page) in
      let whole : m * p.page ≡ p.size = omega (arith, div-add-mod' p.size p.page, facts.size_paged) in
      let past : length image ≤ k * p.page =
      omega (arith, suc-mul (length image / p.page) p.page, div-add-mod' (length image) p.page, mod-lt (length image) pos) in
      finalized_count image fits
      ∙ ap length
      (sym (changed_below_past p d image k m past)
      ∙ ap (changed_below p d image) (add_comm m k)
      ∙ changed_below_past p d image m k (omega arith))
