-- The upload is seen: the writes leave the board as if the image had come in one write (`Written`), so the finalize leaves it standing in
-- flash (`finished_flash`) and answers the count of the state that it leaves, and what is read back is the image (`Shown`).
use mathlib.Core.Path.{◌≡◌, refl, ap, ◌∙◌}
use mathlib.Core.List.{List, []}
use Prim.Native.Nat.{ℕ, ◌≤◌}
use native.Mathlib.Omega.{arith}
use native.Mathlib.Nat.{div-add-mod'}
use lib.ListN.{length}
use borrow.Author.Tests.{ne_eqb}
use Rattle.rules.specs.State.{Upload}
use Rattle.rules.specs.Commit.{Progress, taken_all, finalized}
use Rattle.rules.specs.Frames.{two_bytes}
use Rattle.rules.specs.Commands.{tabled, restarted, finished, performed}
use Rattle.laws.proofs.StateLaws.{refusal_unrefused, unrefused_profile}
use Rattle.laws.proofs.ImageLaws.{begins, finished_flash}
use Rattle.laws.proofs.OverlayLaws.{get_or-overlay_outside}
use Rattle.roundtrip.specs.Exchanges.{Line, Board, sending, left}
use Rattle.roundtrip.specs.UploadRoundtrip.{writes, finalize, uploaded, UploadRoundtrip}
use Rattle.roundtrip.proofs.Exchange.{Exchanged, exchange}
use Rattle.roundtrip.proofs.Encodes.{plain_made}
use Rattle.roundtrip.proofs.Written.{Going, going_begins, written_all}
use Rattle.roundtrip.proofs.Shown.{read_all}

-- past the first byte a write goes on with the upload as it is
going_on : (n : ℕ) (u : Upload) → 1 ≤ n → u ≡ restarted n u
going_on n u some = rw (ne_eqb n 0 (λ e. omega arith))

module _ (l : Line) (d image : List ℕ) (some : 1 ≤ length image) (b : Board) (going : Going l d image b) where
  -- the whole upload
  abbrev pub g : Progress
  g = finalized l.profile (taken_all l.profile (begins d) image)

  standing : record { upload = b.state.upload; flash = b.flash } ≡ taken_all l.profile (begins d) image
  standing = ap (λ (u : Upload). in_flash u) (going_on (length image) b.state.upload some) ∙ going.resumes
    where
      in_flash : Upload → Progress
      in_flash u = record { upload = u; flash = b.flash }

  pub finalize_exchanged : Exchanged l (sending l b finalize) g.upload g.flash (two_bytes g.upload.count)
  unfolding tabled performed finished
  finalize_exchanged =
      exchange l b going.ready finalize 0x07 [] (two_bytes g.upload.count) g.upload g.flash
      (plain_made l b going.ready 0x07 refl refl) refl (λ e. absurd (omega arith))
      (rw standing)

pub upload_roundtrip : UploadRoundtrip
upload_roundtrip l b image plan ready some fits planned =
    let unrefused = refusal_unrefused l.profile b.state (length b.flash) l.buffer ready.none_refused in
    let wrote = written_all l b.flash plan [] image b 0 refl (going_begins l b ready) planned.each planned.whole (omega arith) in
    let last = finalize_exchanged l b.flash image some (left l b (writes 0 image plan)) wrote.1 in
    let stands =
    last.flash_is ∙ finished_flash l.profile (unrefused_profile unrefused) b.flash unrefused.flash_holds image fits in
    record {
      writes_ok = wrote.0;
      finalize_ok = last.answered_ok_holds;
      count_read = rw (last.results_are, last.upload_is) (div-add-mod' _ 256);
      image_stands = stands;
      others_kept = λ i other.
          rw stands (get_or-overlay_outside b.flash l.profile.offset image (omega (arith, unrefused.flash_holds)) i other);
      read_back = λ parts p.
          read_all l b.flash image fits unrefused.flash_holds parts (uploaded l b image plan) 0 last.ready stands p.each
          (omega (arith, p.whole));
    }
