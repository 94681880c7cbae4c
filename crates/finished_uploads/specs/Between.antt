-- What may stand in an upload: a list that has a call of each kind, on I²C, with a working flash of two pages at 64.
use Rattle.std.specs.Prelude.{◌≡◌, List, [], ◌∷◌, ◌++◌, ℕ, take, replicate}
use Rattle.rules.specs.declared.kinds.Bus.TheVariants.{I2c}
use Rattle.rules.specs.Frames.{request, reset_address_frame}
use Rattle.rules.specs.Profile.{Profile}
use Rattle.rules.specs.Responses.{ok, invalid_crc, invalid_arguments}
use Rattle.rules.specs.Examples.{example_at, lent}
use Rattle.ledger.specs.Ledger.{count_bytes, high_low}
use Rattle.ledger.specs.Calls.{Call, Frame, Read, Step, ruled, traced}
use Rattle.ledger.specs.Reached.{sent}
use Rattle.finished_uploads.specs.Uploads.{Uploaded, NoneWaited}

abbrev pub board : Profile
board = example_at I2c 64

abbrev pub flash_before : List ℕ
flash_before = lent board (replicate 128 0xFF)

abbrev pub upload_calls : List Call
upload_calls =
    -- an empty write at 0, and a write at 0 that fills page 0
    sent 0x06 (0 ∷ 0 ∷ [])
    ∷ sent 0x06 (0 ∷ 0 ∷ replicate 64 0x11)
    -- a finalize that finds none waiting
    ∷ sent 0x07 []
    -- a byte more; a write that is refused; one with a reply buffer that is too short, number 5
    ∷ sent 0x06 (0 ∷ 64 ∷ 0x22 ∷ [])
    ∷ sent 0x06 (0 ∷ 99 ∷ 0x44 ∷ [])
    ∷ Frame 8 (request I2c 8 0x06 (0 ∷ 65 ∷ 0x44 ∷ [])) 31
    -- a read of flash, and of the reply
    ∷ sent 0x08 (0 ∷ 0 ∷ 4 ∷ [])
    ∷ Read 8 256
    -- a finalize for another board, and a damaged one
    ∷ Frame 20 (request I2c 20 0x07 []) 256
    ∷ Frame 8 (0x07 ∷ 0x00 ∷ []) 256
    -- an own address, and the default range again
    ∷ sent 0x01 (20 ∷ 1 ∷ [])
    ∷ Frame 0 (reset_address_frame I2c) 256
    -- the last byte
    ∷ sent 0x06 (0 ∷ 65 ∷ 0x33 ∷ [])
    ∷ []

-- number, status and how many results of each answer; of one without a reply the number alone
abbrev pub answers_of : List Step → List (List ℕ)
answers_of [] = []
answers_of (s ∷ ss) = (s.number ∷ take 2 s.reply) ∷ answers_of ss

-- with a finalize behind it the list is an upload of 66 bytes, of which no earlier finalize found bytes waiting; two pages are erased
pub record AllBetween : Type 0 where
  pub upload : List Step
  pub last : Step
  pub steps_are : traced ruled board flash_before (upload_calls ++ sent 0x07 [] ∷ []) ≡ upload ++ last ∷ []
  pub answers_are :
      answers_of upload
      ≡ (0 ∷ ok ∷ 0 ∷ []) ∷ (0 ∷ ok ∷ 0 ∷ []) ∷ (0 ∷ ok ∷ 2 ∷ []) ∷ (0 ∷ ok ∷ 0 ∷ []) ∷ (0 ∷ invalid_arguments ∷ 0 ∷ []) ∷ (5 ∷ [])
      ∷ (0 ∷ ok ∷ 4 ∷ []) ∷ (0 ∷ ok ∷ 4 ∷ []) ∷ (1 ∷ []) ∷ (0 ∷ invalid_crc ∷ 0 ∷ []) ∷ (0 ∷ ok ∷ 0 ∷ []) ∷ (1 ∷ [])
      ∷ (0 ∷ ok ∷ 0 ∷ []) ∷ []
  pub uploaded : Uploaded board (replicate 64 0x11 ++ 0x22 ∷ 0x33 ∷ []) upload last
  pub none_waited : NoneWaited board flash_before upload
  pub count_is : count_bytes board.bus last.reply ≡ high_low 2
