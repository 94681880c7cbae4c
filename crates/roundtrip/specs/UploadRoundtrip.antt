-- The upload that a technician sees.
use Rattle.std.specs.Prelude.{◌≡◌, ◌⊎◌, List, [], ◌∷◌, ℕ, ◌+◌, ◌≤◌, ◌<◌, length, take, drop, get_or}
use Rattle.rules.specs.declared.requests.Request.TheVariants.{Plain, Write, Read}
use Rattle.rules.specs.Bytes.{overlay}
use Rattle.rules.specs.Frames.{number_at}
use Rattle.roundtrip.specs.Sending.{Sending}
use Rattle.roundtrip.specs.Longest.{data_most, results_most}
use Rattle.roundtrip.specs.Exchanges.{Line, Board, Message, Ready, sending, after, exchanges, left, Ok, EachOk, results, all_results}

-- a list of lengths that are each at most so many and add up to n
abbrev pub total : List ℕ → ℕ
total [] = 0
total (k ∷ ks) = k + total ks

abbrev pub EachMost : ℕ → List ℕ → Type 0
EachMost most [] = Unit
EachMost most (k ∷ ks) = (k ≤ most) × EachMost most ks

pub record Plan (most n : ℕ) (lengths : List ℕ) : Type 0 where
  pub each : EachMost most lengths
  pub whole : total lengths ≡ n

-- an image is written from a place on, in frames of these data lengths
abbrev pub writes : ℕ → List ℕ → List ℕ → List Message
writes at image [] = []
writes at image (k ∷ ks) = record { request = Write at; bytes = take k image } ∷ writes (at + k) (drop k image) ks

abbrev pub finalize : Message
finalize = record { request = Plain 0x07; bytes = [] }

-- and read back from a place on, in parts of these lengths
abbrev pub reads : ℕ → List ℕ → List Message
reads at [] = []
reads at (k ∷ ks) = record { request = Read at k; bytes = [] } ∷ reads (at + k) ks

-- the finalize after the writes
abbrev pub finalizing : Line → Board → List ℕ → List ℕ → Sending
finalizing l b image plan = sending l (left l b (writes 0 image plan)) finalize

-- the board after the finalize
abbrev pub uploaded : Line → Board → List ℕ → List ℕ → Board
uploaded l b image plan = after (finalizing l b image plan)

pub record UploadedAndRead (l : Line) (b : Board) (image plan : List ℕ) : Type 0 where
  -- every write and the finalize are answered OK
  pub writes_ok : EachOk (exchanges l b (writes 0 image plan))
  pub finalize_ok : Ok (finalizing l b image plan)
  -- the finalize's results are the count of the board's state
  pub count_read : number_at (results (finalizing l b image plan)) 0 ≡ (uploaded l b image plan).state.upload.count
  -- the image stands in flash, and every other byte is as before
  pub image_stands : (uploaded l b image plan).flash ≡ overlay b.flash l.profile.offset image
  pub others_kept :
      (i : ℕ) → (i < l.profile.offset) ⊎ (l.profile.offset + length image ≤ i)
      → get_or (uploaded l b image plan).flash i 0 ≡ get_or b.flash i 0
  -- read back in parts of any allowed lengths it is the image's own bytes
  pub read_back :
      (parts : List ℕ) → Plan (results_most l.profile.bus l.profile.longest) (length image) parts
      → EachOk (exchanges l (uploaded l b image plan) (reads 0 parts))
      × (all_results (exchanges l (uploaded l b image plan) (reads 0 parts)) ≡ image)

-- an image of 1 to S bytes, written from zero in frames of any allowed lengths and finalized, is answered OK all along, stands in flash
-- with every other byte as before, and reads back as its own bytes
abbrev pub UploadRoundtrip : Type 0
UploadRoundtrip =
    (l : Line) (b : Board) (image plan : List ℕ) → Ready l b → 1 ≤ length image → length image ≤ l.profile.size
    → Plan (data_most l.profile.bus l.profile.longest) (length image) plan → UploadedAndRead l b image plan
