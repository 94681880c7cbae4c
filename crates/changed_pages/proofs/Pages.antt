-- Laws of the changed pages: a page changes where the image's bytes for it do not stand there already, none changes behind the image, and
-- all of them laid one after the other are the image laid at O. Why: each page lies behind those before it, so it is found as it was at the
-- beginning (`drop-overlay`), and laying a whole page of which only a part differs is laying that part (`overlay_within`).
use mathlib.Core.Path.{◌≡◌, refl, sym, ap, ◌∙◌}
use mathlib.Core.Bool.{Bool, true, false, cond}
use mathlib.Core.List.{List, [], ◌∷◌, ◌++◌, append-nil}
use Prim.Native.Nat.{ℕ, zero, suc, ◌+◌, ◌*◌, ◌/◌, ◌%◌, ◌≤◌}
use native.Mathlib.Omega.{arith}
use native.Mathlib.Nat.{add-zero, zero-add, suc-add, zero-mul, suc-mul, div-add-mod'}
use lib.Dec.{leb}
use lib.ListN.{length, take, drop, length-take, length-drop, drop_of_length-le}
use lib.Seq.{take-add, take_all, take-nil, take-take, take-append-le, drop-append-le, length-take-le}
use borrow.Author.Tests.{leb-true, leb-false}
use Rattle.rules.specs.Bytes.{same, overlay}
use Rattle.rules.specs.Profile.{Profile}
use Rattle.laws.proofs.BytesLaws.{same_self, same-overlay, length-overlay, overlay_none, overlay-same, overlay-overlay, overlay_within}
use Rattle.laws.proofs.CommitLaws.{raise}
use Rattle.laws.proofs.OverlayLaws.{drop-overlay}
use Rattle.laws.proofs.TestLaws.{by_test}
use Rattle.changed_pages.specs.ChangedPages.{ChangedPage, place_of, old_page, part_of, new_page, changed_page, changed_below, changed_pages}
use Rattle.changed_pages.specs.ChangedPages.{lay_pages}

-- the image's bytes for page k stand there already
abbrev pub stood : Profile → List ℕ → List ℕ → ℕ → Bool
stood p d image k = same (take (length (part_of p.page image k)) (drop (place_of p k) d)) (part_of p.page image k)

-- a page has no bytes behind the image's end
pub part_past : (page : ℕ) (image : List ℕ) (k : ℕ) → length image ≤ k * page → part_of page image k ≡ []
part_past page image k past = rw (drop_of_length-le image past) (take-nil page)

-- nor more when bytes follow a whole one
part-append : (page : ℕ) (image more : List ℕ) (k : ℕ) → suc k * page ≤ length image → part_of page (image ++ more) k ≡ part_of page image k
part-append page image more k whole =
    let next = suc-mul k page in
    rw (drop-append-le (k * page) image more (omega arith))
    (take-append-le page (drop (k * page) image) more (simp length-drop (omega arith)))

-- whole pages stay as they are when bytes follow
pub changed_below-append : (p : Profile) (d image more : List ℕ) (k : ℕ) → k * p.page ≤ length image
    → changed_below p d (image ++ more) k ≡ changed_below p d image k
unfolding changed_below
changed_below-append p d image more zero whole = refl
changed_below-append p d image more (suc k) whole =
    rw (part-append p.page image more k whole, changed_below-append p d image more k (omega (arith, suc-mul k p.page)))

-- no page changes behind the image's end
changed_page_past : (p : Profile) (d image : List ℕ) (k : ℕ) → length image ≤ k * p.page → changed_page p d image k ≡ []
changed_page_past p d image k past = rw (part_past p.page image k past, overlay_none (old_page p d k) 0, same_self (old_page p d k))

pub changed_below_past : (p : Profile) (d image : List ℕ) (k n : ℕ) → length image ≤ k * p.page
    → changed_below p d image (n + k) ≡ changed_below p d image k
unfolding changed_below
changed_below_past p d image k zero past = rw zero-add
changed_below_past p d image k (suc n) past =
    rw (suc-add, changed_page_past p d image (n + k) (further n), append-nil) (changed_below_past p d image k n past)
  where
    further : (n : ℕ) → length image ≤ (n + k) * p.page
    further zero = rw zero-add past
    further (suc n) = rw suc-add (omega (arith, further n, suc-mul (n + k) p.page))

module _ (p : Profile) (d image : List ℕ) (room : p.offset + length image ≤ length d) where
  -- where the image reaches, it has room in the page
  part_room : (k : ℕ) → length (part_of p.page image k) ≤ length (old_page p d k)
  part_room k = simp (length-take, length-drop) (omega arith)

  -- a page changes where the image's bytes do not stand there
  pub changed_stood : (k : ℕ) → same (old_page p d k) (new_page p d image k) ≡ stood p d image k
  changed_stood k =
      let part : List ℕ = part_of p.page image k in
      let most : length part ≤ p.page = simp length-take (omega arith) in
      same-overlay (old_page p d k) 0 part (rw zero-add (part_room k))
      ∙ ap (λ (l : List ℕ). same l part) (take-take (length part) p.page (drop (place_of p k) d) most)

  pub length-changed_page : (k : ℕ) → length (changed_page p d image k) ≡ raise (stood p d image k)
  length-changed_page k = rw (changed_stood k) (go (stood p d image k))
    where
      go : (b : Bool) → length {A = ChangedPage} (cond b [] (record { place = place_of p k; bytes = new_page p d image k } ∷ [])) ≡ raise b
      go true = refl
      go false = refl

-- pages laid in two goes
lay_pages-append : (d : List ℕ) (xs ys : List ChangedPage) → lay_pages d (xs ++ ys) ≡ lay_pages (lay_pages d xs) ys
unfolding lay_pages
lay_pages-append d [] ys = refl
lay_pages-append d (x ∷ xs) ys = lay_pages-append (overlay d x.place x.bytes) xs ys

module _ (p : Profile) (d image : List ℕ) (fits : length image ≤ p.size) (room : p.offset + p.size ≤ length d) where
  reaches : p.offset + length image ≤ length d
  reaches = omega arith

  -- the image laid up to page k
  abbrev laid_to : ℕ → List ℕ
  laid_to k = overlay d p.offset (take (k * p.page) image)

  -- one page more
  module _ (k : ℕ) (inside : suc k * p.page ≤ p.size) where
    abbrev part : List ℕ
    part = part_of p.page image k

    further : take (suc k * p.page) image ≡ take (k * p.page) image ++ part
    further = ap (λ (n : ℕ). take n image) (suc-mul k p.page) ∙ take-add (k * p.page) p.page image

    -- where the image reaches it
    module _ (within : k * p.page ≤ length image) where
      front : length (take (k * p.page) image) ≡ k * p.page
      front = length-take-le (k * p.page) image within

      part_fits : k * p.page + length part ≤ length image
      part_fits = simp (length-take, length-drop) (omega arith)

      part-laid : overlay (laid_to k) (place_of p k) part ≡ laid_to (suc k)
      part-laid =
          ap (λ (n : ℕ). overlay (laid_to k) (p.offset + n) part) (sym front)
          ∙ overlay-overlay d p.offset (take (k * p.page) image) part (rw front (omega (arith, part_fits)))
          ∙ ap (overlay d p.offset) (sym further)

      -- the flash ahead is as at the beginning
      ahead : drop (place_of p k) (laid_to k) ≡ drop (place_of p k) d
      ahead =
          drop-overlay d p.offset (take (k * p.page) image) (rw front (omega (arith, part_fits))) (place_of p k) (rw front (omega arith))

      laid-length : length (laid_to k) ≡ length d
      laid-length = length-overlay d p.offset (take (k * p.page) image) (rw front (omega (arith, part_fits)))

      page_laid : lay_pages (laid_to k) (changed_page p d image k) ≡ laid_to (suc k)
      unfolding lay_pages
      page_laid =
          by_test (same (old_page p d k) (new_page p d image k))
          (λ e.
          let stands : stood p d image k ≡ true = sym (changed_stood p d image reaches k) ∙ e in
          let there : same (take (length part) (drop (place_of p k) (laid_to k))) part ≡ true = rw ahead stands in
          rw e (sym (overlay-same (laid_to k) (place_of p k) part (omega (arith, laid-length, part_fits)) there) ∙ part-laid))
          (λ e.
          let next = suc-mul k p.page in
          let whole : overlay (laid_to k) (place_of p k) (new_page p d image k) ≡ overlay (laid_to k) (place_of p k + 0) part =
          rw (← ahead)
          (overlay_within (laid_to k) (place_of p k) p.page 0 part (omega (arith, laid-length)) (simp length-take (omega arith))) in
          rw e (whole ∙ ap (λ (n : ℕ). overlay (laid_to k) n part) (add-zero (place_of p k)) ∙ part-laid))

    -- and where it ended before
    past_laid : length image ≤ k * p.page → lay_pages (laid_to k) (changed_page p d image k) ≡ laid_to (suc k)
    unfolding lay_pages
    past_laid past =
        rw (changed_page_past p d image k past, further, part_past p.page image k past, append-nil)

    next_laid : lay_pages (laid_to k) (changed_page p d image k) ≡ laid_to (suc k)
    next_laid =
        by_test (leb (k * p.page) (length image))
        (λ e. page_laid (leb-true _ _ e))
        (λ e. let past = leb-false (k * p.page) (length image) e in past_laid (omega arith))

  -- the changed ones of the first k pages, laid one after the other, are the image laid up to there
  below_laid : (k : ℕ) → k * p.page ≤ p.size → lay_pages d (changed_below p d image k) ≡ laid_to k
  unfolding changed_below lay_pages
  below_laid zero inside = rw zero-mul (sym (overlay_none d p.offset))
  below_laid (suc k) inside =
      lay_pages-append d (changed_below p d image k) (changed_page p d image k)
      ∙ ap (λ (e : List ℕ). lay_pages e (changed_page p d image k)) (below_laid k (omega (arith, suc-mul k p.page)))
      ∙ next_laid k inside

-- all of them: the image laid at O
pub pages_laid : (p : Profile) (d image : List ℕ) → p.size % p.page ≡ 0 → p.offset + p.size ≤ length d → length image ≤ p.size
    → lay_pages d (changed_pages p d image) ≡ overlay d p.offset image
pages_laid p d image paged room fits =
    let whole : p.size / p.page * p.page ≡ p.size = omega (arith, div-add-mod' p.size p.page) in
    below_laid p d image fits room (p.size / p.page) (omega arith)
    ∙ ap (overlay d p.offset) (ap (λ (n : ℕ). take n image) whole ∙ take_all p.size image fits)
