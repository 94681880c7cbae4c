-- Document 01, "Commit", and how accepted bytes reach flash.
use Rattle.std.specs.Prelude.{◌≡◌, ◌⊎◌, cond, List, [], ◌∷◌, ◌++◌, ℕ, suc, ◌+◌, ◌-◌, ◌*◌, ◌/◌, ◌%◌, ◌<◌, ◌≤◌, eqb, length, take, drop, get_or}
use Rattle.rules.specs.Bytes.{same, overlay}
use Rattle.rules.specs.Profile.{Profile}
use Rattle.rules.specs.State.{Upload}

-- an upload and the flash it goes into
pub record Progress : Type 0 where
  pub upload : Upload
  pub flash : List ℕ

-- where the page of a place begins
abbrev pub page_start : ℕ → ℕ → ℕ
page_start page place = place / page * page

-- Commit: the waiting bytes are put at their places in the page; its other bytes stay.
-- Only a page that differs from the old one is erased and written, and raises the count by one. In both cases w = 0 afterwards.
unfoldable pub committed : Profile → Progress → Progress
committed p g =
    let u : Upload = g.upload in
    let place : ℕ = u.next - length u.waiting in
    let start : ℕ = p.offset + page_start p.page place in
    let old : List ℕ = take p.page (drop start g.flash) in
    let new : List ℕ = overlay old (place % p.page) u.waiting in
    cond (same old new)
    (record { upload = record { next = u.next; waiting = []; count = u.count }; flash = g.flash })
    (record { upload = record { next = u.next; waiting = []; count = suc u.count }; flash = overlay g.flash start new })

-- one accepted byte; a byte that ends a page commits that page
unfoldable pub taken : Profile → Progress → ℕ → Progress
taken p g b =
    let u : Upload = g.upload in
    let more : Progress =
    record { upload = record { next = u.next + 1; waiting = u.waiting ++ (b ∷ []); count = u.count }; flash = g.flash } in
    cond (eqb ((u.next + 1) % p.page) 0) (committed p more) more

-- accepted bytes, one by one
unfoldable pub taken_all : Profile → Progress → List ℕ → Progress
taken_all p g [] = g
taken_all p g (b ∷ bs) = taken_all p (taken p g b) bs

-- finalize: a commit if bytes are waiting, else nothing
unfoldable pub finalized : Profile → Progress → Progress
finalized p g = cond (eqb (length g.upload.waiting) 0) g (committed p g)

-- a place of the lent flash outside the working flash, which is O to O + S - 1
abbrev pub Outside : Profile → ℕ → Type 0
Outside p i = (i < p.offset) ⊎ (p.offset + p.size ≤ i)

-- the flash e is as long as d, and its bytes outside are those of d
pub record OutsideKept (p : Profile) (d e : List ℕ) : Type 0 where
  pub length_kept : length e ≡ length d
  pub bytes_kept : (i : ℕ) → Outside p i → get_or e i 0 ≡ get_or d i 0
