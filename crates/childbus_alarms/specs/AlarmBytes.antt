-- The other four calls over bytes: lost bytes, a finalize that erased nothing, the end of an upload, pages that changed.
use Rattle.std.specs.Prelude.{Bool, cond, List, ℕ, leb, length}
use Rattle.rules.specs.State.{Upload, fresh_upload}
use Rattle.profile_bytes.specs.ProfileBytes.{profile_at}
use Rattle.state_bytes.specs.StateBytes.{state_size, state_said}
use Rattle.alarms.specs.Alarms.{erased_nothing}
use Rattle.lost_bytes.specs.Lost.{upload_of, lost_bytes}
use Rattle.upload_ends.specs.declared.UploadEnd.{UploadEnd}
use Rattle.upload_ends.specs.declared.UploadEnd.TheVariants.{Whole, Partly, Unchanged}
use Rattle.upload_ends.specs.Ends.{upload_end, page_changed}

-- the upload that bytes say; the fresh one where they are too short for a state
unfoldable pub upload_at : List ℕ → Upload
upload_at b = cond (leb state_size (length b)) (upload_of (state_said b).upload) fresh_upload

-- 1 if so, else 0
abbrev pub flag : Bool → ℕ
flag b = cond b 1 0

-- childbus_lost
unfoldable pub lost_number : List ℕ → List ℕ → List ℕ → List ℕ → ℕ
lost_number profile before after flash = lost_bytes (profile_at profile).offset (upload_at before) (upload_at after) flash

-- childbus_erased_nothing
unfoldable pub erased_nothing_number : List ℕ → List ℕ → ℕ → List ℕ → List ℕ → ℕ
erased_nothing_number profile frame number reply after =
    flag (erased_nothing (profile_at profile).bus frame number reply (upload_at after).count)

-- the end of an upload as a number
abbrev pub end_number : UploadEnd → ℕ
end_number Whole = 0
end_number Partly = 1
end_number Unchanged = 2

-- childbus_upload_end
unfoldable pub upload_end_number : List ℕ → List ℕ → List ℕ → List ℕ → ℕ
upload_end_number profile image earlier flash =
    end_number (upload_end (profile_at profile).offset (profile_at profile).size image earlier flash)

-- childbus_page_changed
unfoldable pub page_changed_number : List ℕ → ℕ → List ℕ → List ℕ → ℕ
page_changed_number profile page earlier flash =
    flag (page_changed (profile_at profile).page (profile_at profile).offset page earlier flash)
