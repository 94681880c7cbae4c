-- Both ways of a state: what is written is read back, and what is read and written back changes no byte. Bytes that hold none are
-- malformed.
use mathlib.Core.Path.{◌≡◌, refl, sym, ap, ◌∙◌}
use mathlib.Core.Bool.{true, false}
use mathlib.Core.Logic.{inl}
use mathlib.Core.List.{List, [], ◌∷◌, ◌++◌}
use Prim.Native.Nat.{ℕ, ◌-◌, ◌%◌, ◌≤◌, ◌<◌}
use native.Mathlib.Omega.{arith}
use native.Mathlib.Nat.{zero-mod, mod-lt}
use lib.Dec.{leb}
use lib.ListN.{length, take, drop, get_or, length-append, length-drop}
use lib.Seq.{drop_at, drop-drop}
use borrow.Author.Tests.{leb-true, le-leb}
use Rattle.rules.specs.Profile.{Profile, in_range}
use Rattle.rules.specs.State.{State, used, upload_formed, well_formed}
use Rattle.rules.specs.Bytes.{overlay}
use Rattle.rules.specs.Numbers.{laid}
use Rattle.laws.proofs.TestLaws.{&&_true}
use Rattle.laws.proofs.BytesLaws.{length-overlay}
use Rattle.laws.proofs.OverlayLaws.{drop-overlay, get_or-overlay_outside}
use Rattle.laws.proofs.StateLaws.{length-used, in_range_facts, well_formed_facts}
use Rattle.state.specs.View.{largest_page, largest_frame, view}
use Rattle.state.proofs.Laws.{used-laid}
use Rattle.byte_slices.specs.Four.{four_at, four_bytes}
use Rattle.fields.specs.Fields.{Bytes, part}
use Rattle.fields.proofs.Laws.{drop_four, four_at-four_bytes, part_four, laid-part, part-laid, part_behind, part-before, overlay_own}
use Rattle.state_bytes.specs.StateBytes.{waiting_from, reply_from, state_size, state_held, state_said, no_state, state_at}
use Rattle.state_bytes.specs.StateBytes.{head_bytes, state_written}
use Rattle.state_bytes.specs.BothWays.{StateFits, RestKept}
use Rattle.state_bytes.proofs.FlagLaws.{address_of_bytes, kind_byte_address_of, own_byte_address_of, running_byte_lem, running_byte-byte}
use Rattle.state_bytes.proofs.FlagLaws.{kind_byte_most, running_byte_most}

pub said_at : (b : List ℕ) → state_held b ≡ true → state_at b ≡ state_said b
unfolding state_at
said_at b held = rw held

pub held_long : (b : List ℕ) → state_held b ≡ true → state_size ≤ length b
held_long b held = leb-true _ _ (&&_true (leb state_size (length b)) _ held).0

-- next is at most S, w less than the page, the count at most next, a last reply at most M
pub state_fits : (p : Profile) (s : State) → in_range p ≡ true → well_formed p s ≡ true → StateFits s
state_fits p s range formed =
    let sizes = in_range_facts p range in
    let facts = well_formed_facts p s formed in
    let below : s.upload.next % p.page < p.page = mod-lt s.upload.next sizes.page_least in
    record { next = omega arith; count = omega arith; waiting = omega arith; last = omega arith }

drop-laid-all : (xs l : List ℕ) → drop (length xs) (laid xs l) ≡ drop (length xs) l
drop-laid-all xs l = drop_at xs (drop (length xs) l) (length xs) refl

-- a state that was written
module _ (s : State) (b : List ℕ) (fits : StateFits s) (long : state_size ≤ length b) where
  -- as long as before, with the waiting bytes and with the last reply too
  length-first : length (overlay b waiting_from s.upload.waiting) ≡ length b
  length-first = length-overlay b waiting_from s.upload.waiting (omega (arith, fits.waiting))

  pub length_both : length (overlay (overlay b waiting_from s.upload.waiting) reply_from s.last) ≡ length b
  length_both =
      length-overlay (overlay b waiting_from s.upload.waiting) reply_from s.last (omega (arith, length-first, fits.last))
      ∙ length-first

  written_held : state_held (state_written s b) ≡ true
  unfolding state_written
  written_held =
      let c : List ℕ = overlay (overlay b waiting_from s.upload.waiting) reply_from s.last in
      let room : state_size ≤ length (laid (head_bytes s c) c) =
      omega (arith, length-append (head_bytes s c) (drop 20 c), length-drop 20 c, length_both) in
      rw (le-leb _ _ room, le-leb _ _ (kind_byte_most s.address), le-leb _ _ (running_byte_most s.running))

  -- the parts of the buffers
  waiting_part : part (overlay (overlay b waiting_from s.upload.waiting) reply_from s.last) waiting_from largest_page
      ≡ laid s.upload.waiting (part b waiting_from largest_page)
  waiting_part =
      part-before (overlay b waiting_from s.upload.waiting) reply_from s.last (omega (arith, length-first, fits.last))
      waiting_from largest_page (omega arith)
      ∙ part-laid b waiting_from s.upload.waiting (omega (arith, fits.waiting)) largest_page fits.waiting (omega arith)

  last_part : part (overlay (overlay b waiting_from s.upload.waiting) reply_from s.last) reply_from largest_frame
      ≡ laid s.last (part b reply_from largest_frame)
  last_part =
      part-laid (overlay b waiting_from s.upload.waiting) reply_from s.last (omega (arith, length-first, fits.last))
      largest_frame fits.last (omega (arith, length-first))
      ∙ ap (laid s.last) (part_behind b waiting_from s.upload.waiting (omega (arith, fits.waiting)) reply_from largest_frame
      (omega (arith, fits.waiting)))

  waiting_read : used (length s.upload.waiting) (part (overlay (overlay b waiting_from s.upload.waiting) reply_from s.last)
      waiting_from largest_page) ≡ s.upload.waiting
  waiting_read =
      ap (used (length s.upload.waiting)) waiting_part
      ∙ used-laid (length s.upload.waiting) s.upload.waiting (part b waiting_from largest_page) refl

  last_read : used (length s.last) (part (overlay (overlay b waiting_from s.upload.waiting) reply_from s.last)
      reply_from largest_frame) ≡ s.last
  last_read =
      ap (used (length s.last)) last_part
      ∙ used-laid (length s.last) s.last (part b reply_from largest_frame) refl

  written_said : view (state_said (state_written s b)) ≡ s
  unfolding state_written
  written_said =
      let c : List ℕ = overlay (overlay b waiting_from s.upload.waiting) reply_from s.last in
      let behind : drop largest_page (drop 20 c) ≡ drop reply_from c = drop-drop largest_page 20 c in
      rw (
        address_of_bytes s.address (get_or c 1 0),
        running_byte_lem s.running,
        four_at-four_bytes s.upload.next fits.next,
        four_at-four_bytes (length s.upload.waiting) (omega (arith, fits.waiting)),
        four_at-four_bytes s.upload.count fits.count,
        four_at-four_bytes (length s.last) (omega (arith, fits.last)),
        behind,
        waiting_read,
        last_read,
      )

  pub state_read : view (state_at (state_written s b)) ≡ s
  state_read = ap view (said_at (state_written s b) written_held) ∙ written_said

  -- a byte before both buffers
  before_both : (i : ℕ) → i < waiting_from → get_or (overlay (overlay b waiting_from s.upload.waiting) reply_from s.last) i 0 ≡ get_or b i 0
  before_both i h =
      get_or-overlay_outside (overlay b waiting_from s.upload.waiting) reply_from s.last (omega (arith, length-first, fits.last)) i
      (inl (omega arith))
      ∙ get_or-overlay_outside b waiting_from s.upload.waiting (omega (arith, fits.waiting)) i (inl h)

  pub rest_kept : RestKept s b (state_written s b)
  unfolding state_written
  rest_kept =
      let a : List ℕ = overlay b waiting_from s.upload.waiting in
      let c : List ℕ = overlay a reply_from s.last in
      record {
        byte3 = before_both 3 (omega arith);
        byte1 = λ default. rw default (before_both 1 (omega arith));
        waiting =
            ap (drop (length s.upload.waiting)) waiting_part
            ∙ drop-laid-all s.upload.waiting (part b waiting_from largest_page);
        last =
            ap (λ (l : List ℕ). drop (length s.last) (take largest_frame l)) (drop-drop largest_page 20 c)
            ∙ ap (drop (length s.last)) last_part
            ∙ drop-laid-all s.last (part b reply_from largest_frame);
        past =
            drop-drop (state_size - 20) 20 c
            ∙ drop-overlay a reply_from s.last (omega (arith, length-first, fits.last)) state_size (omega (arith, fits.last))
            ∙ drop-overlay b waiting_from s.upload.waiting (omega (arith, fits.waiting)) state_size (omega (arith, fits.waiting));
      }

-- a state that was read: its first bytes are those that stand there
head_kept : (b : List ℕ) → Bytes b → state_held b ≡ true → laid (head_bytes (view (state_said b)) b) b ≡ b
head_kept b bytes held =
    let parts = &&_true (leb state_size (length b)) _ held in
    let flags = &&_true (leb (get_or b 0 0) 1) _ parts.1 in
    let long : state_size ≤ length b = leb-true _ _ parts.0 in
    let kind : get_or b 0 0 ≤ 1 = leb-true _ _ flags.0 in
    let running : get_or b 2 0 ≤ 1 = leb-true _ _ flags.1 in
    let front : List ℕ = get_or b 0 0 ∷ get_or b 1 0 ∷ get_or b 2 0 ∷ get_or b 3 0 ∷ [] in
    let numbers : front ++ four_bytes (four_at b 4) ++ four_bytes (four_at b 8) ++ four_bytes (four_at b 12) ++ four_bytes (four_at b 16)
    ≡ front ++ part b 4 16 =
    ap (λ (l : List ℕ). l ++ four_bytes (four_at b 8) ++ four_bytes (four_at b 12) ++ four_bytes (four_at b 16))
    (part_four front b 4 0 bytes (omega arith))
    ∙ ap (λ (l : List ℕ). l ++ four_bytes (four_at b 12) ++ four_bytes (four_at b 16)) (part_four front b 4 4 bytes (omega arith))
    ∙ ap (λ (l : List ℕ). l ++ four_bytes (four_at b 16)) (part_four front b 4 8 bytes (omega arith))
    ∙ part_four front b 4 12 bytes (omega arith) in
    rw (
      kind_byte_address_of (get_or b 0 0) (get_or b 1 0) kind,
      own_byte_address_of (get_or b 0 0) (get_or b 1 0) kind,
      running_byte-byte (get_or b 2 0) running,
      length-used (four_at b 8) (part b waiting_from largest_page),
      length-used (four_at b 16) (part b reply_from largest_frame),
    )
    (ap (λ (l : List ℕ). laid l b) numbers ∙ laid-part front b 16 (omega arith) ∙ sym (drop_four b 0 (omega arith)))

pub state_kept : (b : List ℕ) → Bytes b → state_held b ≡ true → StateFits (view (state_at b)) → state_written (view (state_at b)) b ≡ b
unfolding state_written
state_kept b bytes held fits =
    let long = held_long b held in
    let said = said_at b held in
    let waiting : four_at b 8 ≤ largest_page =
    omega (arith, rw said at fits.waiting, length-used (four_at b 8) (part b waiting_from largest_page)) in
    let last : four_at b 16 ≤ largest_frame =
    omega (arith, rw said at fits.last, length-used (four_at b 16) (part b reply_from largest_frame)) in
    rw (
      said,
      overlay_own b waiting_from (four_at b 8) largest_page waiting (omega arith),
      overlay_own b reply_from (four_at b 16) largest_frame last (omega arith),
    )
    (head_kept b bytes held)

pub state_malformed : (p : Profile) (b : List ℕ) → state_held b ≡ false → well_formed p (view (state_at b)) ≡ false
unfolding state_at well_formed upload_formed
state_malformed p b e = rw (e, le-leb 0 p.size (omega arith), length-used 1 no_state.upload.waiting, zero-mod p.page)
