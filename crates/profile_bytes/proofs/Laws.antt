-- Both ways of a profile: its bytes say it, and bytes that hold one are its bytes. Bytes that hold none are out of range.
use mathlib.Core.Path.{◌≡◌, refl, sym, ap, ◌∙◌}
use mathlib.Core.Bool.{true, false}
use mathlib.Core.List.{List, [], ◌∷◌, ◌++◌}
use Prim.Native.Nat.{ℕ, ◌≤◌}
use native.Mathlib.Omega.{arith}
use lib.Dec.{eqb, leb}
use lib.ListN.{length, take, drop, get_or, set, length-append}
use lib.Seq.{take_at}
use borrow.Author.Tests.{leb-true, eqb-true, le-leb}
use Rattle.rules.specs.declared.kinds.Bus.{Bus}
use Rattle.rules.specs.declared.kinds.Bus.TheVariants.{I2c, Rs485}
use Rattle.rules.specs.Profile.{largest_page, page_in_range, in_range}
use Rattle.laws.proofs.StateLaws.{in_range_facts}
use Rattle.profile.specs.declared.Profile.{Profile}
use Rattle.profile.specs.View.{profile_of}
use Rattle.byte_slices.specs.Four.{four_at, four_bytes}
use Rattle.fields.specs.Fields.{Bytes, part}
use Rattle.profile_bytes.specs.ProfileBytes.{profile_size, profile_held, profile_said, profile_at, profile_bytes, bus_of, bus_byte}
use Rattle.profile_bytes.specs.ProfileBytes.{page_of, page_byte}
use Rattle.profile_bytes.specs.BothWays.{ProfileFits}
use Rattle.laws.proofs.TestLaws.{by_test, &&_true}
use Rattle.fields.proofs.Laws.{zero_or_one, drop_four, four_at-four_bytes, part_four, part-more}

-- the bus in a byte

bus_of-bus_byte : (bus : Bus) → bus_of (bus_byte bus) ≡ bus
bus_of-bus_byte I2c = refl
bus_of-bus_byte Rs485 = refl

bus_byte-bus_of : (x : ℕ) → x ≤ 1 → bus_byte (bus_of x) ≡ x
bus_byte-bus_of x h = zero_or_one (λ (n : ℕ). bus_byte (bus_of n) ≡ n) x h refl refl

bus_byte_most : (bus : Bus) → bus_byte bus ≤ 1
bus_byte_most I2c = omega arith
bus_byte_most Rs485 = omega arith

-- the page in a byte

page_of_page_byte : (page : ℕ) → page_in_range page ≡ true → page_of (page_byte page) ≡ page
page_of_page_byte page range =
    by_test (eqb page 64)
    (λ small. rw small (sym (eqb-true page 64 small)))
    (λ other. rw other (sym (eqb-true page largest_page (rw other at range))))

page_byte_page_of : (x : ℕ) → x ≤ 1 → page_byte (page_of x) ≡ x
page_byte_page_of x h = zero_or_one (λ (n : ℕ). page_byte (page_of n) ≡ n) x h refl refl

page_byte_most : (page : ℕ) → page_byte page ≤ 1
page_byte_most page = by_test (eqb page 64) (λ small. rw small (omega arith)) (λ other. rw other (omega arith))

-- both ways

said_at : (b : List ℕ) → profile_held b ≡ true → profile_at b ≡ profile_said b
unfolding profile_at
said_at b held = rw held

-- M is at most 256, S and O at most 65,472
pub profile_fits : (p : Profile) → length p.serial ≡ 16 → in_range (profile_of p) ≡ true → ProfileFits p
profile_fits p serial range =
    let facts = in_range_facts (profile_of p) range in
    record { longest = omega arith; page = facts.page_in_range_holds; size = omega arith; offset = omega arith; serial = serial }

module _ (p : Profile) (rest : List ℕ) (fits : ProfileFits p) where
  bytes_held : profile_held (profile_bytes p ++ rest) ≡ true
  unfolding profile_bytes
  bytes_held =
      let long : profile_size ≤ length (profile_bytes p ++ rest) = omega (arith, length-append p.serial rest, fits.serial) in
      rw (le-leb _ _ long, le-leb _ _ (bus_byte_most p.bus), le-leb _ _ (page_byte_most p.page))

  bytes_said : profile_said (profile_bytes p ++ rest) ≡ p
  unfolding profile_bytes
  bytes_said =
      rw (
        bus_of-bus_byte p.bus,
        page_of_page_byte p.page fits.page,
        four_at-four_bytes p.longest fits.longest,
        four_at-four_bytes p.size fits.size,
        four_at-four_bytes p.offset fits.offset,
        take_at p.serial rest 16 fits.serial,
      )

  pub profile_read : profile_at (profile_bytes p ++ rest) ≡ p
  profile_read = said_at (profile_bytes p ++ rest) bytes_held ∙ bytes_said

-- the bytes of what bytes say, where they are long enough: from 8 on as they were
said_bytes : (b : List ℕ) → Bytes b → profile_size ≤ length b
    → profile_bytes (profile_said b)
    ≡ (bus_byte (bus_of (get_or b 0 0)) ∷ get_or b 1 0 ∷ get_or b 2 0 ∷ get_or b 3 0 ∷ get_or b 4 0 ∷ get_or b 5 0
    ∷ page_byte (page_of (get_or b 6 0)) ∷ 0 ∷ []) ++ part b 8 28
unfolding profile_bytes
said_bytes b bytes long =
    let front : List ℕ = bus_byte (bus_of (get_or b 0 0)) ∷ get_or b 1 0 ∷ get_or b 2 0 ∷ get_or b 3 0 ∷ get_or b 4 0 ∷ get_or b 5 0
    ∷ page_byte (page_of (get_or b 6 0)) ∷ 0 ∷ [] in
    ap (λ (l : List ℕ). l ++ four_bytes (four_at b 12) ++ four_bytes (four_at b 16) ++ part b 20 16) (part_four front b 8 0 bytes (omega arith))
    ∙ ap (λ (l : List ℕ). l ++ four_bytes (four_at b 16) ++ part b 20 16) (part_four front b 8 4 bytes (omega arith))
    ∙ ap (λ (l : List ℕ). l ++ part b 20 16) (part_four front b 8 8 bytes (omega arith))
    ∙ part-more front b 8 12 16

pub profile_kept : (b : List ℕ) → Bytes b → profile_held b ≡ true → profile_bytes (profile_at b) ≡ set (take profile_size b) 7 0
profile_kept b bytes held =
    let parts = &&_true (leb profile_size (length b)) _ held in
    let kinds = &&_true (leb (get_or b 0 0) 1) _ parts.1 in
    let long : profile_size ≤ length b = leb-true _ _ parts.0 in
    let written : b ≡ get_or b 0 0 ∷ get_or b 1 0 ∷ get_or b 2 0 ∷ get_or b 3 0 ∷ get_or b 4 0 ∷ get_or b 5 0 ∷ get_or b 6 0 ∷ get_or b 7 0 ∷ drop 8 b =
    drop_four b 0 (omega arith)
    ∙ ap (λ (l : List ℕ). get_or b 0 0 ∷ get_or b 1 0 ∷ get_or b 2 0 ∷ get_or b 3 0 ∷ l) (drop_four b 4 (omega arith)) in
    ap profile_bytes (said_at b held)
    ∙ said_bytes b bytes long
    ∙ rw (bus_byte-bus_of (get_or b 0 0) (leb-true _ _ kinds.0), page_byte_page_of (get_or b 6 0) (leb-true _ _ kinds.1))
    (sym (ap (λ (l : List ℕ). set (take profile_size l) 7 0) written))

pub profile_out : (b : List ℕ) → profile_held b ≡ false → in_range (profile_of (profile_at b)) ≡ false
unfolding profile_at in_range
profile_out b e = rw e
