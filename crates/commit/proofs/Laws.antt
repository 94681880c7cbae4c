-- Laws of accepted bytes that lie in one page, over the page, of a commit by what the code holds, and of an upload that is formed again.
use mathlib.Core.Path.{◌≡◌, refl, sym, ap, subst, ◌∙◌}
use mathlib.Core.Bool.{Bool, true, false, cond}
use mathlib.Core.List.{List, [], ◌∷◌, ◌++◌}
use Prim.Native.Nat.{ℕ, ◌+◌, ◌-◌, ◌%◌, ◌<◌, ◌≤◌}
use native.Mathlib.Omega.{arith}
use native.Mathlib.Nat.{add-zero, mod-lt, mod-eq_of_lt, mod_self, mod-add-mod}
use lib.ListN.{length, take, drop, length-append, length-take}
use lib.Seq.{take_at, length-take-le}
use borrow.Author.Tests.{eq-eqb, ne_eqb}
use Rattle.rules.specs.Bytes.{overlay}
use Rattle.rules.specs.Profile as rules
use Rattle.rules.specs.State.{used}
use Rattle.rules.specs.Commit.{Progress, committed, taken_all, finalized}
use Rattle.laws.proofs.BytesLaws.{length-overlay}
use Rattle.laws.proofs.CommitLaws.{Fitting, raise, appended, committed-overlay, taken_all_below, taken_all_end}
use Rattle.laws.proofs.StateLaws.{used-take, used-zero, ProfileFacts, UploadFacts, in_range_facts, upload_formed_facts, facts_upload_formed}
use Rattle.laws.proofs.UploadLaws.{Kept, taken_all_kept, finalized_kept, next_taken_all, next_finalized}
use Rattle.state.specs.declared.Upload.{Upload}
use Rattle.state.specs.View.{upload_of}
use Rattle.state.proofs.Laws.{HeldFacts, length_waiting, upload_held}
use Rattle.profile.specs.declared.Profile.{Profile}
use Rattle.profile.specs.View.{profile_of}
use Rattle.commit.specs.Progress.{progress_of, Ready, Formed, CommitCounted}

-- accepted bytes that lie in one page

module _ (page n k : ℕ) (fits : n % page + k ≤ page) where
  -- k places from n on end before their page does, or with it
  mod_below : ((n + k) % page ≡ 0 → ⊥) → n % page + k < page
  mod_below left =
      let short : n % page + k ≡ page → ⊥ = λ e. left (sym (mod-add-mod n page k) ∙ ap (λ (m : ℕ). m % page) e ∙ mod_self page) in
      omega arith

  mod_end : 0 < k → (n + k) % page ≡ 0 → n % page + k ≡ page
  mod_end some e =
      let long : n % page + k < page → ⊥ = λ h. omega (arith, mod-add-mod n page k, mod-eq_of_lt h) in
      omega arith

module _ (p : rules.Profile) (g : Progress) where
  pub taken_all-appended : (xs : List ℕ) → g.upload.next % p.page + length xs ≤ p.page
      → ((g.upload.next + length xs) % p.page ≡ 0 → ⊥)
      → taken_all p g xs ≡ appended g xs
  taken_all-appended xs fits left = taken_all_below p g xs (mod_below p.page g.upload.next (length xs) fits left)

  pub taken_all-committed : (xs : List ℕ) → g.upload.next % p.page + length xs ≤ p.page → 0 < length xs
      → (g.upload.next + length xs) % p.page ≡ 0 → taken_all p g xs ≡ committed p (appended g xs)
  taken_all-committed [] fits some e = absurd (omega arith)
  taken_all-committed (x ∷ xs) fits some e = taken_all_end p g x xs (mod_end p.page g.upload.next (length (x ∷ xs)) fits some e)

-- the bytes in use, with more laid behind them
pub used-overlay : (n : ℕ) (buffer bytes : List ℕ) → n + length bytes ≤ length buffer
    → used (n + length bytes) (overlay buffer n bytes) ≡ used n buffer ++ bytes
unfolding overlay
used-overlay n buffer bytes fits =
    let front : length (take n buffer ++ bytes) ≡ n + length bytes = simp (length-append, length-take) (omega arith) in
    used-take (n + length bytes) (overlay buffer n bytes) (rw (length-overlay buffer n bytes fits) fits)
    ∙ take_at (take n buffer ++ bytes) (drop (n + length bytes) buffer) (n + length bytes) front
    ∙ ap (λ (l : List ℕ). l ++ bytes) (sym (used-take n buffer (omega arith)))

-- the facts that Ready stands for
pub record Bounds (p : Profile) (u : Upload) : Type 0 where
  pub profile : ProfileFacts (profile_of p)
  pub upload : UploadFacts (profile_of p).page p.size (upload_of u)
  pub held : HeldFacts (profile_of p).page p.size u
  pub in_page : u.next % (profile_of p).page < (profile_of p).page

pub ready_bounds : {p : Profile} {u : Upload} {n : ℕ} → Ready p u n → Bounds p u
ready_bounds {p} {u} ready =
    let facts = upload_formed_facts (profile_of p).page p.size (upload_of u) ready.formed in
    let range = in_range_facts (profile_of p) ready.in_range_holds in
    record {
      profile = range;
      upload = facts;
      held = upload_held (profile_of p).page p.size u facts;
      in_page = mod-lt u.next range.page_least;
    }

-- a commit by what the code holds

-- waiting bytes that lie in one page of the working flash
pub fitting : (p : Profile) (u : Upload) (d : List ℕ) → ProfileFacts (profile_of p) → p.offset + p.size ≤ length d → u.next ≤ p.size
    → u.held ≤ u.next → (u.next - u.held) % (profile_of p).page + u.held ≤ (profile_of p).page → Fitting (profile_of p) (progress_of u d)
fitting p u d facts room next_le held_le in_page =
    record {
      page_pos = facts.page_least;
      sized = facts.size_paged;
      room = room;
      next_le = next_le;
      held_le = rw (length_waiting u) held_le;
      in_page = rw (length_waiting u) in_page;
    }

cond-raise : (b : Bool) (n : ℕ) → cond b n (n + 1) ≡ n + raise b
cond-raise true n = sym (add-zero n)
cond-raise false n = refl

-- an upload with nothing waiting and another count
abbrev pub emptied : Upload → ℕ → Upload
emptied u count = record { next = u.next; held = 0; count = count; waiting = u.waiting }

pub committed-counted : (p : Profile) (u : Upload) {count : ℕ} {d d' : List ℕ} → Fitting (profile_of p) (progress_of u d)
    → u.held ≤ length u.waiting
    → CommitCounted d (p.offset + (u.next - u.held)) (take u.held u.waiting) u.count count d'
    → committed (profile_of p) (progress_of u d) ≡ progress_of (emptied u count) d'
committed-counted p u {count} {d} fits long settled =
    let all : used u.held u.waiting ≡ take u.held u.waiting = used-take u.held u.waiting long in
    let n : length (take u.held u.waiting) ≡ u.held = length-take-le u.held u.waiting long in
    committed-overlay (profile_of p) (progress_of u d) fits ∙ rw (all, n, used-zero, settled.laid, settled.counted, cond-raise, n)

-- finalize commits exactly where the code holds waiting bytes
module _ (p : rules.Profile) (u : Upload) (d : List ℕ) where
  pub finalized_none : u.held ≡ 0 → finalized p (progress_of u d) ≡ progress_of u d
  unfolding finalized
  finalized_none e = rw (length_waiting u, eq-eqb u.held 0 e)

  pub finalized_some : (u.held ≡ 0 → ⊥) → finalized p (progress_of u d) ≡ committed p (progress_of u d)
  unfolding finalized
  finalized_some ne = rw (length_waiting u, ne_eqb u.held 0 ne)

-- an upload that is formed again

-- what the rules keep, the code keeps
pub kept_upload : (p : Profile) (u : Upload) {d d₀ : List ℕ} {g : Progress} → progress_of u d ≡ g → Kept (profile_of p) d₀ g
    → UploadFacts (profile_of p).page p.size (upload_of u)
kept_upload p u e kept = subst (λ (g : Progress). UploadFacts (profile_of p).page p.size g.upload) (sym e) kept.formed

module _ {p : Profile} {u : Upload} (d : List ℕ) (ready : Ready p u (length d)) where
  pub ready_taken : (bytes : List ℕ) → u.next + length bytes ≤ p.size
      → Kept (profile_of p) d (taken_all (profile_of p) (progress_of u d) bytes)
  ready_taken bytes fits =
      let b = ready_bounds ready in
      taken_all_kept (profile_of p) b.profile (progress_of u d) bytes ready.flash_holds b.upload fits

  ready_finalized : Kept (profile_of p) d (finalized (profile_of p) (progress_of u d))
  ready_finalized =
      let b = ready_bounds ready in
      finalized_kept (profile_of p) b.profile (progress_of u d) ready.flash_holds b.upload

  module _ (r : Upload) {d' : List ℕ} where
    pub taken_formed : (bytes : List ℕ) → u.next + length bytes ≤ p.size → progress_of r d' ≡ taken_all (profile_of p) (progress_of u d) bytes
        → Formed p r (u.next + length bytes)
    taken_formed bytes fits e =
        record {
          formed = facts_upload_formed (profile_of p).page p.size (upload_of r) (kept_upload p r e (ready_taken bytes fits));
          next_is = ap (λ (g : Progress). g.upload.next) e ∙ next_taken_all (profile_of p) (progress_of u d) bytes;
        }

    pub finalized_formed : progress_of r d' ≡ finalized (profile_of p) (progress_of u d) → Formed p r u.next
    finalized_formed e =
        record {
          formed = facts_upload_formed (profile_of p).page p.size (upload_of r) (kept_upload p r e ready_finalized);
          next_is = ap (λ (g : Progress). g.upload.next) e ∙ next_finalized (profile_of p) (progress_of u d);
        }
