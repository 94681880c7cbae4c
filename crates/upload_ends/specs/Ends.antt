-- How an upload ended, by the lent flash before its first write and at its end.
use Rattle.std.specs.Prelude.{Bool, cond, not, List, ℕ, ◌*◌, length, take, drop}
use Rattle.rules.specs.Bytes.{same}
use Rattle.byte_parts.specs.Parts.{part}
use Rattle.upload_ends.specs.declared.UploadEnd.{UploadEnd}
use Rattle.upload_ends.specs.declared.UploadEnd.TheVariants.{Whole, Partly, Unchanged}

-- the bytes begin with the image
abbrev pub begins_with : List ℕ → List ℕ → Bool
begins_with bytes image = same (take (length image) bytes) image

-- how an upload ended: the working flash, S bytes from O on, begins with the image; or it does not, and has changed since the first
-- write, or has not
unfoldable pub upload_end : ℕ → ℕ → List ℕ → List ℕ → List ℕ → UploadEnd
upload_end O S image earlier flash =
    cond (begins_with (part O S flash) image) Whole
    (cond (same (part O S earlier) (part O S flash)) Unchanged Partly)

-- page k of the working flash has changed
unfoldable pub page_changed : ℕ → ℕ → ℕ → List ℕ → List ℕ → Bool
page_changed page O k earlier flash = not (same (part (k * page) page (drop O earlier)) (part (k * page) page (drop O flash)))
