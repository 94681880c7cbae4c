-- The pages that an upload changes, page by page over the image and the flash that the upload begins with.
use Rattle.std.specs.Prelude.{cond, List, [], ◌∷◌, ◌++◌, ℕ, zero, suc, ◌+◌, ◌*◌, ◌/◌, take, drop}
use Rattle.rules.specs.Bytes.{same, overlay}
use Rattle.rules.specs.Profile.{Profile}

-- a changed page: where it begins in the lent flash, and its new bytes
pub record ChangedPage : Type 0 where
  pub place : ℕ
  pub bytes : List ℕ

-- where page k of the working flash begins in the lent flash
abbrev pub place_of : Profile → ℕ → ℕ
place_of p k = p.offset + k * p.page

-- page k as the upload finds it
abbrev pub old_page : Profile → List ℕ → ℕ → List ℕ
old_page p d k = take p.page (drop (place_of p k) d)

-- the image's bytes for page k: fewer than a page, or none, where the image ends
abbrev pub part_of : ℕ → List ℕ → ℕ → List ℕ
part_of page image k = take page (drop (k * page) image)

-- page k with these bytes laid over it from its beginning on; behind the image's end it keeps its own
abbrev pub new_page : Profile → List ℕ → List ℕ → ℕ → List ℕ
new_page p d image k = overlay (old_page p d k) 0 (part_of p.page image k)

-- page k, if it changes
abbrev pub changed_page : Profile → List ℕ → List ℕ → ℕ → List ChangedPage
changed_page p d image k =
    cond (same (old_page p d k) (new_page p d image k)) [] (record { place = place_of p k; bytes = new_page p d image k } ∷ [])

-- those of the first n pages that change, in rising order
unfoldable pub changed_below : Profile → List ℕ → List ℕ → ℕ → List ChangedPage
changed_below p d image zero = []
changed_below p d image (suc n) = changed_below p d image n ++ changed_page p d image n

-- those of all pages of the working flash, which has S bytes
abbrev pub changed_pages : Profile → List ℕ → List ℕ → List ChangedPage
changed_pages p d image = changed_below p d image (p.size / p.page)

-- pages laid over a flash, one after the other
unfoldable pub lay_pages : List ℕ → List ChangedPage → List ℕ
lay_pages d [] = d
lay_pages d (c ∷ cs) = lay_pages (overlay d c.place c.bytes) cs
