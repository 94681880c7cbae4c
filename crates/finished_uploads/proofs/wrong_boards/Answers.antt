-- `finished_uploads::wrong_boards` meets its contract: the byte 7 is written at 0 and lost before the finalize, at each kind of call in
-- between; from a count of 1 the upload of one page answers 2; and over flash that has the byte 7 already its upload answers 1.
use Rattle.std.proofs.Common.{◌≡◌, refl, ap, Bool, true, false, List, [], ◌∷◌, ℕ, arith, get_or, replicate}
use Rattle.rules.specs.declared.kinds.Bus.TheVariants.{I2c}
use Rattle.rules.specs.State.{fresh}
use Rattle.changed_pages.specs.ChangedPages.{changed_below}
use Rattle.ledger.specs.Ledger.{opened}
use Rattle.ledger.specs.Calls.{Call, Frame, Read, Board, Step, trace}
use Rattle.ledger.specs.Claim.{finalize_step, pieces, from_zero, joined}
use Rattle.wrongboards.specs.WrongBoards.{counts_unchanged}
use Rattle.wrongboards.proofs.Computing.{computing}
use Rattle.wrongboards.proofs.Cases.{zeros, sent}
use Rattle.finished_uploads.specs.Uploads.{resetting, begins, fed_all, Stored, FinishedUploads}
use Rattle.finished_uploads.specs.Wrong.{loses_at_set_address, loses_at_flash_read, loses_at_ignored, loses_at_read, counts_on}
use Rattle.finished_uploads.proofs.WrongCases.{state_with, at_zero, around, step_at}
use Rattle.finished_uploads.proofs.wrong_boards.Goals as goal

-- the steps of a board on an image written at 0, another call, and a finalize
module _ (B : Board) (s : B.Kept) (d image : List ℕ) (c : Call) where
  abbrev at : ℕ → Step
  at = step_at (trace B at_zero s d (opened d) (around image c))

  abbrev upload : List Step
  upload = at 0 ∷ at 1 ∷ []

  abbrev resets : Step → Bool
  resets t = resetting at_zero t t.call

  -- what the claim says of them, where they are an upload of the image
  stored : FinishedUploads B → trace B at_zero s d (opened d) (around image c) ≡ at 0 ∷ at 1 ∷ at 2 ∷ [] → begins at_zero upload ≡ true
      → resets (at 0) ≡ false → resets (at 1) ≡ false → from_zero (pieces at_zero upload) ≡ true → joined (pieces at_zero upload) ≡ image
      → finalize_step at_zero (at 2) ≡ true → Stored at_zero d image upload (at 2)
  stored h is begun first second order bytes ended =
      h at_zero s d (around image c) [] upload [] (at 2) is image
      (record { begun = begun; no_reset = (first, (second, tt)); in_order = order; image_is = bytes; ended = ended })

-- the first byte
byte_of : {l m : List ℕ} → l ≡ m → get_or l 0 0 ≡ get_or m 0 0
byte_of e = ap (λ (l : List ℕ). get_or l 0 0) e

-- the low byte of the count
count_of : {l m : List ℕ} → l ≡ m → get_or l 1 0 ≡ get_or m 1 0
count_of e = ap (λ (l : List ℕ). get_or l 1 0) e

set_address_lem : FinishedUploads loses_at_set_address → ⊥
unfolding computing
set_address_lem h =
    let held = stored loses_at_set_address fresh (zeros 64) (7 ∷ []) (sent I2c 0x01 (8 ∷ 1 ∷ [])) h refl refl refl refl refl refl refl in
    let byte : ◌≡◌ {A = ℕ} 0 7 = byte_of held.flash_is in
    omega arith

flash_read : FinishedUploads loses_at_flash_read → ⊥
unfolding computing
flash_read h =
    let held = stored loses_at_flash_read fresh (zeros 64) (7 ∷ []) (sent I2c 0x08 (0 ∷ 0 ∷ 1 ∷ [])) h refl refl refl refl refl refl refl in
    let byte : ◌≡◌ {A = ℕ} 0 7 = byte_of held.flash_is in
    omega arith

-- a frame to another address
ignored-frame : FinishedUploads loses_at_ignored → ⊥
unfolding computing
ignored-frame h =
    let held = stored loses_at_ignored fresh (zeros 64) (7 ∷ []) (Frame 20 (0 ∷ []) 128) h refl refl refl refl refl refl refl in
    let byte : ◌≡◌ {A = ℕ} 0 7 = byte_of held.flash_is in
    omega arith

i2c_read : FinishedUploads loses_at_read → ⊥
unfolding computing
i2c_read h =
    let held = stored loses_at_read fresh (zeros 64) (7 ∷ []) (Read 8 128) h refl refl refl refl refl refl refl in
    let byte : ◌≡◌ {A = ℕ} 0 7 = byte_of held.flash_is in
    omega arith

-- an older count of 1, and a whole page
counts_on_lem : FinishedUploads counts_on → ⊥
unfolding computing fed_all changed_below
counts_on_lem h =
    let held = stored counts_on (state_with 1 [] 1) (zeros 64) (replicate 64 7) (Read 8 128) h refl refl refl refl refl refl refl in
    let count : ◌≡◌ {A = ℕ} 2 1 = count_of (held.count_is refl) in
    omega arith

-- the byte stands there already
unchanged : FinishedUploads counts_unchanged → ⊥
unfolding computing fed_all changed_below
unchanged h =
    let held = stored counts_unchanged fresh (replicate 64 7) (7 ∷ []) (Read 8 128) h refl refl refl refl refl refl refl in
    let count : ◌≡◌ {A = ℕ} 1 0 = count_of (held.count_is refl) in
    omega arith

pub returns : goal.returns
returns c = (set_address_lem, flash_read, ignored-frame, i2c_read, counts_on_lem, unchanged)
