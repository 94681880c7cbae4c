-- The turns of `upload::commit_pages`: what has been reached after the first i bytes, how a page that is ended leads further, and how the
-- bytes behind the last such page do.
use mathlib.Core.Path.{◌≡◌, refl, sym, ap, ◌∙◌}
use mathlib.Core.List.{List, ◌++◌}
use Prim.Native.Nat.{ℕ, ◌+◌, ◌-◌, ◌%◌, ◌<◌, ◌≤◌}
use native.Mathlib.Omega.{arith}
use native.Mathlib.Nat.{mod_self, mod-add-mod}
use lib.ListN.{length, take, drop, length-drop, length-take}
use lib.Seq.{take-add, take-length, length-take-le}
use Rattle.rules.specs.Bytes.{overlay}
use Rattle.rules.specs.Commit.{Progress, committed, taken_all}
use Rattle.laws.proofs.BytesLaws.{length-overlay}
use Rattle.laws.proofs.OverlayLaws.{drop-overlay}
use Rattle.laws.proofs.CommitLaws.{appended, taken_all-append, taken_all_below}
use Rattle.laws.proofs.StateLaws.{used-take, used-zero}
use Rattle.laws.proofs.UploadLaws.{sub-mod, next_taken_all}
use Rattle.state.specs.declared.Upload.{Upload}
use Rattle.state.specs.declared.Counts.{Counts}
use Rattle.state.specs.Heads.{upload_with}
use Rattle.state.specs.View.{largest_page}
use Rattle.state.proofs.Laws.{HeldFacts, upload_held}
use Rattle.profile.specs.declared.Profile.{Profile}
use Rattle.profile.specs.View.{profile_of}
use Rattle.commit.specs.Progress.{progress_of, Ready, CommitCounted}
use Rattle.commit.proofs.Laws.{taken_all-committed, used-overlay, ready_bounds, emptied, fitting}
use Rattle.commit.proofs.Laws.{committed-counted, kept_upload, ready_taken}
use Rattle.upload.specs.declared.Paged.{Paged}
use Rattle.upload.specs.Pages.{PagesTaken}

-- u and d are what the first i bytes make of u₀ and d₀
pub record Reached (p : Profile) (u₀ : Upload) (d₀ bytes : List ℕ) (i : ℕ) (u : Upload) (d : List ℕ) : Type 0 where
  pub reached_most : i ≤ length bytes
  pub buffer : length u.waiting ≡ largest_page
  pub progress : progress_of u d ≡ taken_all (profile_of p) (progress_of u₀ d₀) (take i bytes)
  -- and the numbers that follow from these
  pub next_is : u.next ≡ u₀.next + i
  pub held : HeldFacts p.page p.size u
  pub page_least : 0 < p.page
  pub page_most : p.page ≤ largest_page
  pub flash_length : length d ≡ length d₀

module _ {p : Profile} {u₀ : Upload} (d₀ : List ℕ) (ready : Ready p u₀ (length d₀)) (bytes : List ℕ)
    (fits : u₀.next + length bytes ≤ p.size) where
  pub reached : (i : ℕ) (u : Upload) {d : List ℕ} → i ≤ length bytes → length u.waiting ≡ largest_page
      → progress_of u d ≡ taken_all (profile_of p) (progress_of u₀ d₀) (take i bytes) → Reached p u₀ d₀ bytes i u d
  reached i u most buffer e =
      let n : length (take i bytes) ≡ i = length-take-le i bytes most in
      let kept = ready_taken d₀ ready (take i bytes) (rw n (omega arith)) in
      let next = ap (λ (g : Progress). g.upload.next) e ∙ next_taken_all (profile_of p) (progress_of u₀ d₀) (take i bytes) in
      record {
        reached_most = most;
        buffer = buffer;
        progress = e;
        next_is = rw n at next;
        held = upload_held p.page p.size u (kept_upload p u e kept);
        page_least = (ready_bounds ready).profile.page_least;
        page_most = (ready_bounds ready).profile.page_most;
        flash_length = ap (λ (g : Progress). length g.flash) e ∙ kept.outside.length_kept;
      }

  -- where the loop begins
  pub reached_none : length u₀.waiting ≡ largest_page → Reached p u₀ d₀ bytes 0 u₀ d₀
  unfolding taken_all
  reached_none buffer = reached 0 u₀ (omega arith) buffer refl

-- bytes up to the end of a page
pub page_ended : (page next n : ℕ) → next % page + n ≡ page → (next + n) % page ≡ 0
page_ended page next n e = sym (mod-add-mod next page n) ∙ ap (λ (m : ℕ). m % page) e ∙ mod_self page

-- an upload with n bytes more, in the buffer ws
abbrev pub filled : Upload → ℕ → List ℕ → Upload
filled u n ws = record { next = u.next + n; held = u.held + n; count = u.count; waiting = ws }

-- an upload whose bytes, and n more, are committed; its buffer stays
abbrev pub paged : Upload → ℕ → ℕ → Upload
paged u n count = record { next = u.next + n; held = 0; count = count; waiting = u.waiting }

module _ {p : Profile} {u₀ : Upload} {d₀ bytes : List ℕ} {i : ℕ} {u : Upload} {d : List ℕ} (n : ℕ)
    (ready : Ready p u₀ (length d₀)) (fits : u₀.next + length bytes ≤ p.size) (before : Reached p u₀ d₀ bytes i u d)
    (within : i + n ≤ length bytes) (in_page : u.next % p.page + n ≤ p.page) where
  pub length_more : length (take n (drop i bytes)) ≡ n
  length_more = length-take-le n (drop i bytes) (simp length-drop (omega arith))

  -- these bytes, taken from where the first i bytes lead
  taken_all-more : taken_all (profile_of p) (progress_of u d) (take n (drop i bytes))
      ≡ taken_all (profile_of p) (progress_of u₀ d₀) (take (i + n) bytes)
  taken_all-more =
      ap (λ (g : Progress). taken_all (profile_of p) g (take n (drop i bytes))) before.progress
      ∙ sym (taken_all-append (profile_of p) (progress_of u₀ d₀) (take i bytes) (take n (drop i bytes)))
      ∙ ap (taken_all (profile_of p) (progress_of u₀ d₀)) (sym (take-add i n bytes))

  held_fits : u.held + length (take n (drop i bytes)) ≤ length u.waiting
  held_fits = rw length_more (omega (arith, before.held.held_most, before.page_most, before.buffer))

  module _ {ws : List ℕ} (stored : ws ≡ overlay u.waiting u.held (take n (drop i bytes))) where
    buffer_stored : length ws ≡ largest_page
    buffer_stored = ap length stored ∙ length-overlay u.waiting u.held (take n (drop i bytes)) held_fits ∙ before.buffer

    -- the bytes have joined the waiting ones
    filled-appended : progress_of (filled u n ws) d ≡ appended (progress_of u d) (take n (drop i bytes))
    filled-appended =
        let more = used-overlay u.held u.waiting (take n (drop i bytes)) held_fits in
        rw (stored, length_more, rw length_more at more)

    -- bytes that end no page: that is all
    pub rest-appended : u.next % p.page + n < p.page → Reached p u₀ d₀ bytes (i + n) (filled u n ws) d
    rest-appended short =
        reached d₀ ready bytes fits (i + n) (filled u n ws) (omega arith) buffer_stored
        (filled-appended
        ∙ sym (taken_all_below (profile_of p) (progress_of u d) (take n (drop i bytes)) (rw length_more short))
        ∙ taken_all-more)

  -- the waiting bytes and those behind them
  joined : take (u.held + n) (overlay u.waiting u.held (take n (drop i bytes)))
      ≡ take u.held u.waiting ++ take n (drop i bytes)
  joined =
      let ws = overlay u.waiting u.held (take n (drop i bytes)) in
      let long = length-overlay u.waiting u.held (take n (drop i bytes)) held_fits in
      let all = used-overlay u.held u.waiting (take n (drop i bytes)) held_fits in
      sym (used-take (u.held + n) ws (omega (arith, long, held_fits, length_more)))
      ∙ rw length_more at all
      ∙ ap (λ (l : List ℕ). l ++ take n (drop i bytes)) (used-take u.held u.waiting (omega (arith, held_fits, length_more)))

  -- bytes that end a page: it is committed
  pub page_committed : {count : ℕ} {d' : List ℕ} → 0 < n → (u.next + n) % p.page ≡ 0
      → CommitCounted d (p.offset + (u.next - u.held)) (take u.held u.waiting ++ take n (drop i bytes)) u.count count d'
      → Reached p u₀ d₀ bytes (i + n) (paged u n count) d'
  page_committed {count} {d'} some whole settled =
      let ws = overlay u.waiting u.held (take n (drop i bytes)) in
      let place = sub-mod p.page u.next u.held before.page_least before.held.held_most in
      let shift : u.next + n - (u.held + n) ≡ u.next - u.held = omega arith in
      let lies =
      fitting p (filled u n ws) d (ready_bounds ready).profile (omega arith) (omega arith) (omega arith)
      (rw shift (omega arith)) in
      let settled' : CommitCounted d (p.offset + (u.next + n - (u.held + n))) (take (u.held + n) ws) u.count count d' =
      rw (shift, joined) settled in
      let bare : progress_of (paged u n count) d' ≡ progress_of (emptied (filled u n ws) count) d' =
      rw (used-zero u.waiting, used-zero ws) in
      reached d₀ ready bytes fits (i + n) (paged u n count) (omega arith) before.buffer
      (bare
      ∙ sym (committed-counted p (filled u n ws) lies (rw (buffer_stored refl) (omega arith)) settled')
      ∙ ap (committed (profile_of p)) (filled-appended refl)
      ∙ sym (taken_all-committed (profile_of p) (progress_of u d) (take n (drop i bytes))
      (rw length_more in_page)
      (rw length_more some) (rw length_more whole))
      ∙ taken_all-more)

-- what is reached after the pages that the bytes end, and then by the rest of the bytes
module _ {p : Profile} {u : Counts} {w d bytes : List ℕ} {r : Paged} {d' : List ℕ} (ready : Ready p (upload_with u w) (length d))
    (fits : u.next + length bytes ≤ p.size) (buffer : length w ≡ largest_page) (taken : PagesTaken p u w d bytes r d') where
  pub reached_pages : Reached p (upload_with u w) d bytes r.used (upload_with r.counts w) d'
  reached_pages = reached d ready bytes fits r.used (upload_with r.counts w) taken.used_most buffer taken.progress

  pub length_rest : length (take (length bytes - r.used) (drop r.used bytes)) ≡ length bytes - r.used
  length_rest = length-take-le (length bytes - r.used) (drop r.used bytes) (simp length-drop (omega arith))

  -- the rest fits the buffer behind the waiting bytes, and the working flash
  pub rest_fits : (r.counts.held + (length bytes - r.used) ≤ largest_page) × (r.counts.next + (length bytes - r.used) ≤ p.size)
  rest_fits =
      let at = reached_pages in
      (omega (arith, at.held.held_most, at.page_most, taken.rest_short, taken.used_most), omega (arith, at.next_is, taken.used_most))

  module _ {ws : List ℕ}
      (stored : ws ≡ overlay w r.counts.held (take (length bytes - r.used) (drop r.used bytes))) where
    pub taken-rest : progress_of (filled (upload_with r.counts w) (length (take (length bytes - r.used) (drop r.used bytes))) ws) d'
        ≡ taken_all (profile_of p) (progress_of (upload_with u w) d) bytes
    taken-rest =
        let n : ℕ = length bytes - r.used in
        let all : r.used + (length bytes - r.used) ≡ length bytes = omega (arith, taken.used_most) in
        let end = rest-appended n ready fits reached_pages (omega arith) (omega (arith, taken.rest_short)) stored
        (omega (arith, taken.rest_short, taken.used_most)) in
        rw length_rest (rw (all, take-length bytes) at end.progress)

    pub behind_rest : drop (r.counts.held + length (take (length bytes - r.used) (drop r.used bytes))) ws
        ≡ drop (r.counts.held + length (take (length bytes - r.used) (drop r.used bytes))) w
    behind_rest =
        let rest : List ℕ = take (length bytes - r.used) (drop r.used bytes) in
        let room : r.counts.held + length rest ≤ length w = omega (arith, length_rest, rest_fits.0, buffer) in
        ap (λ (l : List ℕ). drop (r.counts.held + length rest) l) stored
        ∙ drop-overlay w r.counts.held rest room (r.counts.held + length rest) (omega arith)
