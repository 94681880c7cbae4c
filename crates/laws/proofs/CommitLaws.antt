-- Laws of the commit: what it does to flash as one overlay, and accepted bytes taken many at a time. All over the page.
use mathlib.Core.Path.{◌≡◌, refl, sym, ap, ◌∙◌}
use mathlib.Core.Bool.{Bool, true, false, cond, not}
use mathlib.Core.List.{List, [], ◌∷◌, ◌++◌, append_assoc, append-nil}
use Prim.Native.Nat.{ℕ, zero, suc, ◌+◌, ◌-◌, ◌*◌, ◌/◌, ◌%◌, ◌<◌, ◌≤◌}
use native.Mathlib.Omega.{arith}
use native.Mathlib.Nat.{add-zero, add_assoc, div-add-mod', mod-lt, div-lt_iff_lt-mul, mul-le-mul_right, suc-mul, mod-add-mod, mod-eq_of_lt}
use native.Mathlib.Nat.{mod_self, dvd_of_mod-eq-zero, div-mul_cancel}
use native.Mathlib.Numerals.{add-one}
use lib.Dec.{eqb}
use lib.ListN.{length, take, drop, length-append, length-take, length-drop, take-append-drop}
use lib.Seq.{take-add, take-take, drop-drop, drop_at, length-take-le}
use borrow.Author.Tests.{eq-eqb, ne_eqb}
use Rattle.rules.specs.Bytes.{same, overlay}
use Rattle.rules.specs.Profile.{Profile}
use Rattle.rules.specs.State.{Upload}
use Rattle.rules.specs.Commit.{Progress, page_start, committed, taken, taken_all, finalized}
use Rattle.laws.proofs.BytesLaws.{same-overlay, overlay-same, overlay_within, overlay_none, same_self, length-overlay}

-- a part of a part
pub take-drop-take : (w k n : ℕ) (l : List ℕ) → n ≤ length l → k + w ≤ n → take w (drop k (take n l)) ≡ take w (drop k l)
take-drop-take w k n l h fits =
    let parts : n ≡ k + (n - k) = omega arith in
    let whole : take n l ≡ take k l ++ take (n - k) (drop k l) = ap (λ (m : ℕ). take m l) parts ∙ take-add k (n - k) l in
    rw (
      whole,
      drop_at (take k l) (take (n - k) (drop k l)) k (length-take-le k l (omega arith)),
      take-take w (n - k) (drop k l) (omega arith),
    )

-- the page of a place below the size lies within it
pub page_within : (page size place : ℕ) → 0 < page → size % page ≡ 0 → place < size → page_start page place + page ≤ size
page_within page size place pos paged below =
    let whole : size / page * page ≡ size = omega (arith, div-add-mod' size page) in
    let under : place < size / page * page = rw whole below in
    let pages : place / page < size / page = (div-lt_iff_lt-mul pos).1 under in
    let times : suc (place / page) * page ≤ size / page * page = mul-le-mul_right page pages in
    omega (arith, suc-mul (place / page) page)

-- where a commit's waiting bytes lie: within one page of the working flash
pub record Fitting (p : Profile) (g : Progress) : Type 0 where
  pub page_pos : 0 < p.page
  pub sized : p.size % p.page ≡ 0
  pub room : p.offset + p.size ≤ length g.flash
  pub next_le : g.upload.next ≤ p.size
  pub held_le : length g.upload.waiting ≤ g.upload.next
  pub in_page : (g.upload.next - length g.upload.waiting) % p.page + length g.upload.waiting ≤ p.page

-- where the waiting bytes belong in the lent flash
abbrev pub placed : Profile → Upload → ℕ
placed p u = p.offset + (u.next - length u.waiting)

-- the waiting bytes stand in flash already
abbrev pub standing : Profile → Progress → Bool
standing p g = same (take (length g.upload.waiting) (drop (placed p g.upload) g.flash)) g.upload.waiting

-- an upload with nothing waiting, its count raised by n
abbrev pub none_waiting : Upload → ℕ → Upload
none_waiting u n = record { next = u.next; waiting = []; count = u.count + n }

-- what a commit adds to the count
abbrev pub raise : Bool → ℕ
raise true = 0
raise false = 1

pub raise-le : (b : Bool) → raise b ≤ 1
raise-le true = omega arith
raise-le false = omega arith

-- a commit of nothing
pub committed_none : (p : Profile) (g : Progress) → g.upload.waiting ≡ []
    → committed p g ≡ record { upload = none_waiting g.upload 0; flash = g.flash }
unfolding committed
committed_none p g e = rw (e, overlay_none, same_self, add-zero)

-- the two ways of a commit
committed_ways : (p : Profile) (g : Progress) (b : Bool) → standing p g ≡ b
    → placed p g.upload + length g.upload.waiting ≤ length g.flash
    → ◌≡◌ {A = Progress}
    (cond b (record { upload = record { next = g.upload.next; waiting = []; count = g.upload.count }; flash = g.flash })
    (record {
      upload = record { next = g.upload.next; waiting = []; count = suc g.upload.count };
      flash =
          overlay g.flash (placed p g.upload) g.upload.waiting;
    }))
    (record { upload = none_waiting g.upload (raise b); flash = overlay g.flash (placed p g.upload) g.upload.waiting })
committed_ways p g true e fits = rw (add-zero, overlay-same g.flash (placed p g.upload) g.upload.waiting fits e)
committed_ways p g false e fits = rw add-one

committed_some : (p : Profile) (g : Progress) → Fitting p g → 0 < length g.upload.waiting
    → committed p g ≡ record {
      upload = none_waiting g.upload (raise (standing p g));
      flash =
          overlay g.flash (placed p g.upload) g.upload.waiting;
    }
unfolding committed
committed_some p g f some =
    let u : Upload = g.upload in
    let ws : List ℕ = u.waiting in
    let place : ℕ = u.next - length ws in
    let start : ℕ = p.offset + page_start p.page place in
    let k : ℕ = place % p.page in
    let old : List ℕ = take p.page (drop start g.flash) in
    let within : page_start p.page place + p.page ≤ p.size =
    page_within p.page p.size place f.page_pos f.sized (omega (arith, f.next_le, f.held_le)) in
    let at : start + k ≡ placed p u = omega (arith, div-add-mod' place p.page) in
    let long : p.page ≤ length (drop start g.flash) = simp length-drop (omega (arith, f.room)) in
    let room : k + length ws ≤ length old = simp length-take (omega (arith, f.in_page)) in
    let stands : same old (overlay old k ws) ≡ standing p g =
    same-overlay old k ws room
    ∙ rw (take-drop-take (length ws) k p.page (drop start g.flash) long f.in_page, drop-drop k start g.flash, at) in
    let laid : overlay g.flash start (overlay old k ws) ≡ overlay g.flash (placed p u) ws =
    overlay_within g.flash start p.page k ws (omega (arith, f.room)) f.in_page ∙ ap (λ (n : ℕ). overlay g.flash n ws) at in
    rw (stands, laid) (committed_ways p g (standing p g) refl (omega (arith, f.room, f.next_le, f.held_le)))

-- a commit lays the waiting bytes over flash, and counts where that changes it
pub committed-overlay : (p : Profile) (g : Progress) → Fitting p g
    → committed p g ≡ record {
      upload = none_waiting g.upload (raise (standing p g));
      flash =
          overlay g.flash (placed p g.upload) g.upload.waiting;
    }
committed-overlay p g f = go g.upload.waiting refl
  where
    go : (ws : List ℕ) → g.upload.waiting ≡ ws
        → committed p g ≡ record {
          upload = none_waiting g.upload (raise (standing p g));
          flash =
              overlay g.flash (placed p g.upload) g.upload.waiting;
        }
    go [] e = committed_none p g e ∙ rw (e, overlay_none, same_self)
    go (b ∷ bs) e = committed_some p g f (rw e (omega arith))

-- accepted bytes, many at a time

pub taken_all-append : (p : Profile) (g : Progress) (xs ys : List ℕ) → taken_all p g (xs ++ ys) ≡ taken_all p (taken_all p g xs) ys
unfolding taken_all
taken_all-append p g [] ys = refl
taken_all-append p g (x ∷ xs) ys = taken_all-append p (taken p g x) xs ys

-- bytes more, without a commit
abbrev pub appended : Progress → List ℕ → Progress
appended g xs =
    record {
      upload = record { next = g.upload.next + length xs; waiting = g.upload.waiting ++ xs; count = g.upload.count };
      flash = g.flash;
    }

appended_nil : (g : Progress) → appended g [] ≡ g
appended_nil g = rw (add-zero, append-nil)

appended_cons : (g : Progress) (x : ℕ) (xs : List ℕ) → appended (appended g (x ∷ [])) xs ≡ appended g (x ∷ xs)
appended_cons g x xs =
    let n : g.upload.next + 1 + length xs ≡ g.upload.next + suc (length xs) = omega arith in
    rw (n, append_assoc)

-- the next place within a page, and past its end
pub suc-mod_below : (page n : ℕ) → n % page + 1 < page → (n + 1) % page ≡ n % page + 1
suc-mod_below page n h = sym (mod-add-mod n page 1) ∙ mod-eq_of_lt h

pub suc-mod_end : (page n : ℕ) → n % page + 1 ≡ page → (n + 1) % page ≡ 0
suc-mod_end page n h = sym (mod-add-mod n page 1) ∙ ap (λ (m : ℕ). m % page) h ∙ mod_self page

-- one byte that ends no page, and one that ends a page
taken_below : (p : Profile) (g : Progress) (x : ℕ) → g.upload.next % p.page + 1 < p.page → taken p g x ≡ appended g (x ∷ [])
unfolding taken
taken_below p g x h =
    let left : (g.upload.next + 1) % p.page ≡ 0 → ⊥ = λ e. omega (arith, suc-mod_below p.page g.upload.next h) in
    rw (ne_eqb _ _ left)

taken_end : (p : Profile) (g : Progress) (x : ℕ) → g.upload.next % p.page + 1 ≡ p.page → taken p g x ≡ committed p (appended g (x ∷ []))
unfolding taken
taken_end p g x h = rw (eq-eqb _ _ (suc-mod_end p.page g.upload.next h))

-- bytes that end no page only join the waiting ones
pub taken_all_below : (p : Profile) (g : Progress) (xs : List ℕ) → g.upload.next % p.page + length xs < p.page
    → taken_all p g xs ≡ appended g xs
unfolding taken_all
taken_all_below p g [] h = sym (appended_nil g)
taken_all_below p g (x ∷ xs) h =
    let one : g.upload.next % p.page + 1 < p.page = omega arith in
    rw (taken_below p g x one)
    (taken_all_below p (appended g (x ∷ [])) xs (omega (arith, suc-mod_below p.page g.upload.next one)) ∙ appended_cons g x xs)

-- bytes that reach just the end of a page join the waiting ones, and the page is committed
pub taken_all_end : (p : Profile) (g : Progress) (x : ℕ) (xs : List ℕ) → g.upload.next % p.page + length (x ∷ xs) ≡ p.page
    → taken_all p g (x ∷ xs) ≡ committed p (appended g (x ∷ xs))
unfolding taken_all
taken_all_end p g x [] h = taken_end p g x (omega arith)
taken_all_end p g x (y ∷ ys) h =
    let one : g.upload.next % p.page + 1 < p.page = omega arith in
    rw (taken_below p g x one)
    (taken_all_end p (appended g (x ∷ [])) y ys (omega (arith, suc-mod_below p.page g.upload.next one))
    ∙ ap (committed p) (appended_cons g x (y ∷ ys)))
