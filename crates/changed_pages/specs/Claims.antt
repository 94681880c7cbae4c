-- What the changed pages are to an upload of the image that is given at once, over a flash that holds the working flash.
use Rattle.std.specs.Prelude.{◌≡◌, true, List, ℕ, ◌+◌, ◌≤◌, length}
use Rattle.rules.specs.Bytes.{overlay}
use Rattle.rules.specs.Profile.{Profile, in_range}
use Rattle.rules.specs.State.{fresh_upload}
use Rattle.rules.specs.Commit.{taken_all, finalized}
use Rattle.changed_pages.specs.ChangedPages.{changed_pages, lay_pages}

-- laid one after the other they are the image laid at O
abbrev pub PagesLaid : Type 0
PagesLaid =
    (p : Profile) (d image : List ℕ) → in_range p ≡ true → p.offset + p.size ≤ length d → length image ≤ p.size
    → lay_pages d (changed_pages p d image) ≡ overlay d p.offset image

-- there are as many as the commits count
abbrev pub PagesCounted : Type 0
PagesCounted =
    (p : Profile) (d image : List ℕ) → in_range p ≡ true → p.offset + p.size ≤ length d → length image ≤ p.size
    → (finalized p (taken_all p (record { upload = fresh_upload; flash = d }) image)).upload.count ≡ length (changed_pages p d image)
