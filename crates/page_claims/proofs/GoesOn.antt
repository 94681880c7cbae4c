-- An upload that goes on under another page: what stands after the first part stands whatever the page, and each part leads further.
use mathlib.Core.Path.{◌≡◌}
use mathlib.Core.List.{List, [], ◌++◌}
use Prim.Native.Nat.{ℕ, ◌+◌, ◌≤◌}
use native.Mathlib.Omega.{arith}
use lib.ListN.{length, length-append}
use Rattle.rules.specs.Bytes.{overlay}
use Rattle.rules.specs.Profile.{Profile}
use Rattle.rules.specs.Commit.{Progress, taken_all, finalized}
use Rattle.laws.proofs.ImageLaws.{Stands, begins, begins-stands, begins_formed, lent, taken_all-stands, finalized-stands}
use Rattle.laws.proofs.StateLaws.{ProfileFacts, UploadFacts, in_range_facts, upload_formed_facts}
use Rattle.laws.proofs.UploadLaws.{next_taken_all, taken_all_kept}
use Rattle.wrongboards.specs.Variations.{with_page}
use Rattle.page_claims.specs.Pages.{GoesOn}

-- what stands speaks of O alone
stands_on : (p : Profile) (page : ℕ) (d image : List ℕ) (g : Progress) → Stands p d image g → Stands (with_page p page) d image g
stands_on p page d image g s = record { done = s.done; parts = s.parts; next_is = s.next_is; flash_is = s.flash_is }

module _ (p : Profile) (page : ℕ) (d first second : List ℕ) (one : ProfileFacts p) (other : ProfileFacts (with_page p page))
    (room : p.offset + p.size ≤ length d) (fits : length (first ++ second) ≤ p.size) where
  abbrev q : Profile
  q = with_page p page

  abbrev begun : Progress
  begun = taken_all p (begins d) first

  both : length first + length second ≤ p.size
  both = omega (arith, length-append first second)

  begun-stands : Stands q d first begun
  begun-stands =
      stands_on p page d first begun
      (taken_all-stands p one d room [] (begins d) first (begins-stands p d) (begins_formed p) (omega (arith, both)))

  module _ (formed : UploadFacts page p.size begun.upload) where
    further : begun.upload.next + length second ≤ p.size
    further = omega (arith, both, next_taken_all p (begins d) first)

    ends : (finalized q (taken_all q begun second)).flash ≡ overlay d p.offset (first ++ second)
    ends =
        let kept = taken_all_kept q other begun second (lent q d first begun begun-stands other room formed) formed further in
        finalized-stands q d (first ++ second) (taken_all q begun second)
        (taken_all-stands q other d room first begun second begun-stands formed further) other room kept.formed

pub goes_on : GoesOn
goes_on p page d first second range other room fits formed =
    ends p page d first second (in_range_facts p range) (in_range_facts (with_page p page) other) room fits
    (upload_formed_facts page p.size _ formed)
