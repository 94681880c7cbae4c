-- The stores of a head lie one behind the other; zeros one behind the other.
use mathlib.Core.Path.{◌≡◌, refl, ap, ◌∙◌}
use mathlib.Core.Bool.{Bool, true, false}
use mir.Val.{bool_byte}
use mathlib.Core.List.{List, [], ◌∷◌, ◌++◌}
use Prim.Native.Nat.{ℕ, zero, suc, ◌+◌}
use native.Mathlib.Numerals.{add-one}
use lib.ListN.{length, take, drop, get_or, replicate}
use Rattle.rules.specs.Bytes.{overlay}
use Rattle.laws.proofs.StateLaws.{length-used}
use Rattle.laws.proofs.LaidLaws.{overlay-first, overlay-laid}
use Rattle.state.specs.declared.Head.{Head}
use Rattle.state.specs.View.{largest_frame, view}
use Rattle.state.specs.Heads.{state_with}
use Rattle.byte_slices.specs.Four.{four_bytes}
use Rattle.fields.proofs.Laws.{part_put}
use Rattle.state_bytes.specs.StateBytes.{reply_from, kind_byte, own_byte, running_byte, head_written}

-- a bool as a byte
pub running-from : (running : Bool) → bool_byte running ≡ running_byte running
running-from true = refl
running-from false = refl

-- the stores of `head_to`, in their order: b, and what each of them left
pub stored_head : (h : Head) (b : List ℕ) {kind own running : ℕ} {b0 b1 b2 b3 b4 : List ℕ}
    → kind ≡ kind_byte h.address
    → own ≡ own_byte h.address (get_or b 1 0)
    → running ≡ running_byte h.running
    → b0 ≡ overlay b 0 (kind ∷ own ∷ running ∷ get_or b 3 0 ∷ [])
    → b1 ≡ overlay b0 4 (four_bytes h.counts.next)
    → b2 ≡ overlay b1 8 (four_bytes h.counts.held)
    → b3 ≡ overlay b2 12 (four_bytes h.counts.count)
    → b4 ≡ overlay b3 16 (four_bytes h.len)
    → (w l : List ℕ) → b4 ≡ head_written (view (state_with h w l)) b
stored_head h b k o r e0 e1 e2 e3 e4 w l =
    let flags : List ℕ = kind_byte h.address ∷ own_byte h.address (get_or b 1 0) ∷ running_byte h.running ∷ get_or b 3 0 ∷ [] in
    let next : List ℕ = four_bytes h.counts.next in
    let held : List ℕ = four_bytes h.counts.held in
    let count : List ℕ = four_bytes h.counts.count in
    let len : List ℕ = four_bytes h.len in
    rw (
      e4,
      e3,
      e2,
      e1,
      e0,
      k,
      o,
      r,
      overlay-first flags b,
      overlay-laid flags next b 4 refl,
      overlay-laid (flags ++ next) held b 8 refl,
      overlay-laid (flags ++ next ++ held) count b 12 refl,
      overlay-laid (flags ++ next ++ held ++ count) len b 16 refl,
      length-used h.counts.held w,
      length-used h.len l,
    )

-- those of `write_back`: the last reply's buffer is put back, then the head is written
pub written_back : (h : Head) (b l l' : List ℕ) (w m b' : List ℕ) → length l' ≡ largest_frame → l' ≡ l
    → b' ≡ head_written (view (state_with h w m)) (take reply_from b ++ (l' ++ drop largest_frame (drop reply_from b)))
    → b' ≡ head_written (view (state_with h w m)) (overlay b reply_from l)
written_back h b l l' w m b' long e written =
    written ∙ ap (head_written (view (state_with h w m))) (part_put b reply_from largest_frame l' long ∙ ap (overlay b reply_from) e)

-- zeros
pub replicate_snoc : (n x : ℕ) → replicate n x ++ (x ∷ []) ≡ replicate (n + 1) x
replicate_snoc zero x = refl
replicate_snoc (suc n) x = rw add-one (ap (λ (l : List ℕ). x ∷ l) (replicate_snoc n x ∙ ap (λ (k : ℕ). replicate k x) (add-one n)))
