-- The sizes under a page: a multiple of the page within 65,472 is at most the last multiple there.
use mathlib.Core.Path.{◌≡◌}
use mathlib.Core.Logic.{◌⊎◌, inl, inr}
use mathlib.Core.Bool.{true}
use Prim.Native.Nat.{ℕ, ◌/◌, ◌%◌, ◌<◌, ◌≤◌}
use native.Mathlib.Omega.{arith}
use native.Mathlib.Nat.{div-add-mod', le-div_iff_mul-le, mul-le-mul_right}
use lib.Dec.{eqb}
use borrow.Author.Tests.{eqb-true}
use Rattle.rules.specs.Profile.{Profile, largest_page, page_in_range, in_range}
use Rattle.rules.specs.Numbers.{refusal}
use Rattle.rules.specs.Commit.{page_start}
use Rattle.laws.proofs.StateLaws.{ProfileFacts, in_range_facts}
use Rattle.laws.proofs.TestLaws.{by_test}
use Rattle.page_claims.specs.Pages.{Sized, SizesPaged}

-- where the page is tested, one of its two values
page_cases : (page : ℕ) → page_in_range page ≡ true → (page ≡ 64) ⊎ (page ≡ 128)
page_cases page e =
    by_test (eqb page 64) (λ small. inl (eqb-true page 64 small)) (λ other. inr (eqb-true page largest_page (rw other at e)))

paged_most : (page n most : ℕ) → 0 < page → n % page ≡ 0 → n ≤ most → n ≤ page_start page most
paged_most page n most pos paged h =
    let pages : n / page ≤ most / page = (le-div_iff_mul-le {y = most} pos).1 (omega (arith, div-add-mod' n page)) in
    omega (arith, div-add-mod' n page, mul-le-mul_right page pages)

sized : (p : Profile) → ProfileFacts p → Sized p
sized p facts = record {
  page_is = page_cases p.page facts.page_in_range_holds;
  size_paged = facts.size_paged;
  size_least = facts.size_least;
  size_most = paged_most p.page p.size 65472 facts.page_least facts.size_paged facts.size_most;
  offset_paged = facts.offset_paged;
  offset_most = paged_most p.page p.offset 65472 facts.page_least facts.offset_paged facts.offset_most;
}

pub sizes_paged : SizesPaged
unfolding refusal
sizes_paged p s n m other =
    by_test (in_range p) (λ range. sized p (in_range_facts p range)) (λ out. absurd (other (rw out)))
