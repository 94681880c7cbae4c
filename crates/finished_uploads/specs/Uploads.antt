-- What a whole upload does to the flash, and what its finalize answers, whatever else happens on the bus meanwhile: one claim over every
-- list of calls from any state, stated over any board.
use Rattle.std.specs.Prelude.{◌≡◌, Bool, true, false, List, [], ◌∷◌, ◌++◌, ℕ, length}
use Rattle.rules.specs.Bytes.{overlay}
use Rattle.rules.specs.Profile.{Profile}
use Rattle.changed_pages.specs.ChangedPages.{changed_pages, lay_pages}
use Rattle.ledger.specs.Ledger.{Ledger, opened, is_reset, is_write, count_bytes, high_low}
use Rattle.ledger.specs.Calls.{Call, Frame, Read, Board, Step, fed, trace}
use Rattle.ledger.specs.Claim.{finalize_step, pieces, from_zero, joined, Every}

-- the step is a reset: the second general call, answered 1
abbrev pub resetting : Profile → Step → Call → Bool
resetting p s (Frame a f n) = is_reset p.bus a f s.number
resetting p s (Read a n) = false

-- the step is an accepted write
abbrev pub accepting : Profile → Step → Call → Bool
accepting p s (Frame a f n) = is_write p.bus f s.number s.reply
accepting p s (Read a n) = false

-- the first of some steps is an accepted write
abbrev pub begins : Profile → List Step → Bool
begins p [] = false
begins p (s ∷ ss) = accepting p s s.call

-- the steps of an upload and the finalize that ends it: from an accepted write at 0 to an answered finalize there is no reset; the
-- accepted writes are one at 0 and then each where the last ended, and their data joined are the image. All other calls may stand between
pub record Uploaded (p : Profile) (image : List ℕ) (upload : List Step) (last : Step) : Type 0 where
  pub begun : begins p upload ≡ true
  pub no_reset : Every (λ s. resetting p s s.call ≡ false) upload
  pub in_order : from_zero (pieces p upload) ≡ true
  pub image_is : joined (pieces p upload) ≡ image
  pub ended : finalize_step p last ≡ true

-- a ledger that is fed the calls of some steps with their answers
unfoldable pub fed_all : Profile → Ledger → List Step → Ledger
fed_all p k [] = k
fed_all p k (s ∷ ss) = fed_all p (fed p k s.call s.number s.reply) ss

-- none of the finalizes among the steps of an upload found bytes waiting: f is 0 in a ledger opened on the flash before them
abbrev pub NoneWaited : Profile → List ℕ → List Step → Type 0
NoneWaited p d upload = (fed_all p (opened d) upload).finals ≡ 0

-- what holds after the finalize, of the flash d before the upload
pub record Stored (p : Profile) (d image : List ℕ) (upload : List Step) (last : Step) : Type 0 where
  -- the old flash with the image laid over it at O
  pub flash_is : last.flash ≡ overlay d p.offset image
  -- and with its changed pages laid over it one after the other
  pub pages_laid : last.flash ≡ lay_pages d (changed_pages p d image)
  -- where none waited at an earlier finalize, the erase count answered is the number of these pages
  pub count_is : NoneWaited p d upload → count_bytes p.bus last.reply ≡ high_low (length (changed_pages p d image))

-- the flash after some steps; d before them
abbrev pub flash_after : List ℕ → List Step → List ℕ
flash_after d [] = d
flash_after d (s ∷ ss) = flash_after s.flash ss

-- something holds of each stretch of some steps, of the step after it, and of the flash before it, where the flash was d at first
abbrev pub EachStretch : (List ℕ → List Step → Step → Type 0) → List ℕ → List Step → Type 0
EachStretch P d steps =
    (before stretch after : List Step) (next : Step) → steps ≡ before ++ (stretch ++ next ∷ after) → P (flash_after d before) stretch next

-- each upload among some steps is stored
abbrev pub EachStored : Profile → List ℕ → List Step → Type 0
EachStored p = EachStretch (λ d upload last. (image : List ℕ) → Uploaded p image upload last → Stored p d image upload last)

-- the claim: for every list of calls, from any state and any flash, under any one profile
abbrev pub FinishedUploads : Board → Type 0
FinishedUploads B = (p : Profile) (s : B.Kept) (d : List ℕ) (cs : List Call) → EachStored p d (trace B p s d (opened d) cs)
