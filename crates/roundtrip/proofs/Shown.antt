-- The reads of an image that stands in flash: each shows its part of it (`part-overlay`) and changes neither flash nor readiness; parts
-- that follow one another, joined, are the whole.
use mathlib.Core.Path.{◌≡◌, refl, sym, ap, ◌∙◌}
use mathlib.Core.List.{List, [], ◌∷◌, ◌++◌}
use Prim.Native.Nat.{ℕ, ◌+◌, ◌-◌, ◌≤◌}
use native.Mathlib.Omega.{arith}
use native.Mathlib.Nat.{div-add-mod'}
use lib.ListN.{length, take, drop, take-append-drop}
use lib.Seq.{drop-drop, drop-length}
use borrow.Author.Tests.{le-leb}
use Rattle.rules.specs.declared.requests.Request.TheVariants.{Read}
use Rattle.rules.specs.Profile.{Profile}
use Rattle.rules.specs.State.{State}
use Rattle.rules.specs.Bytes.{overlay}
use Rattle.rules.specs.Frames.{shortest_reply, two_bytes, number_at}
use Rattle.rules.specs.Responses.{replying, ok}
use Rattle.rules.specs.Commands.{shown, performed}
use Rattle.laws.proofs.StateLaws.{ProfileFacts, refusal_unrefused, unrefused_profile}
use Rattle.laws.proofs.OverlayLaws.{part-overlay}
use Rattle.roundtrip.specs.Sending.{Sending}
use Rattle.roundtrip.specs.Exchanges.{Line, Board, Ready, sending, after, exchanges, EachOk, all_results}
use Rattle.roundtrip.specs.UploadRoundtrip.{total, EachMost, reads}
use Rattle.roundtrip.specs.Longest.{results_most}
use Rattle.roundtrip.proofs.Exchange.{Exchanged, exchange}
use Rattle.roundtrip.proofs.Encodes.{read_made}

shown-part : (p : Profile) (s : State) (at n : ℕ) (d : List ℕ) → at + n ≤ p.size → n ≤ p.longest - shortest_reply p.bus
    → performed p s 0x08 (two_bytes at ++ n ∷ []) d ≡ replying s d ok (take n (drop (p.offset + at) d))
unfolding performed shown
shown-part p s at n d within most =
    let place : number_at (two_bytes at ++ n ∷ []) 0 ≡ at = div-add-mod' at 256 in
    rw (place, le-leb (at + n) p.size within, le-leb n (p.longest - shortest_reply p.bus) most)

module _ (l : Line) (d image : List ℕ) (fits : length image ≤ l.profile.size)
    (room : l.profile.offset + l.profile.size ≤ length d) where
  module _ (b : Board) (ready : Ready l b) (stands : b.flash ≡ overlay d l.profile.offset image) (at n : ℕ)
      (within : at + n ≤ length image)
      (most : n ≤ results_most l.profile.bus l.profile.longest) where
    abbrev x : Sending
    x = sending l b (record { request = Read at n; bytes = [] })

    facts : ProfileFacts l.profile
    facts = unrefused_profile (refusal_unrefused l.profile b.state (length b.flash) l.buffer ready.none_refused)

    read_exchanged : Exchanged l x b.state.upload b.flash (take n (drop at image))
    read_exchanged =
        let part : take n (drop (l.profile.offset + at) b.flash) ≡ take n (drop at image) =
        rw stands (part-overlay d l.profile.offset image (omega arith) at n within) in
        exchange l b ready (record { request = Read at n; bytes = [] }) 0x08 (two_bytes at ++ n ∷ []) (take n (drop at image))
        b.state.upload b.flash
        (read_made l b ready at (omega (arith, facts.size_most)) n most) refl (λ e. refl)
        (shown-part l.profile b.state at n b.flash (omega arith) most ∙ ap (replying b.state b.flash ok) part)

  -- all of them
  pub read_all : (parts : List ℕ) (b : Board) (at : ℕ) → Ready l b → b.flash ≡ overlay d l.profile.offset image
      → EachMost (results_most l.profile.bus l.profile.longest) parts → at + total parts ≡ length image
      → EachOk (exchanges l b (reads at parts)) × (all_results (exchanges l b (reads at parts)) ≡ drop at image)
  unfolding exchanges all_results
  read_all [] b at ready stands each whole =
      let end : at ≡ length image = omega arith in
      (tt, rw end (sym (drop-length image)))
  read_all (k ∷ parts) b at ready stands each whole =
      let one = read_exchanged b ready stands at k (omega arith) each.0 in
      let others =
      read_all parts (after (sending l b (record { request = Read at k; bytes = [] }))) (at + k) one.ready (one.flash_is ∙ stands)
      each.1 (omega arith) in (
        (one.answered_ok_holds, others.0),
        rw (one.results_are, others.1, ← drop-drop k at image, take-append-drop),
      )
