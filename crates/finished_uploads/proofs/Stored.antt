-- Every upload is stored. A write at zero does what it would in a state with no upload begun (`Anew`), so from there on state and flash are
-- those of a ledger opened on the flash before it (`Traces`); that ledger has accepted the image over this flash (`Gathered`), so after the
-- finalize the image is laid over it, and the count is that of the image given at once, which is the number of changed pages.
use mathlib.Core.Path.{◌≡◌, refl, sym, ap, subst, ◌∙◌}
use mathlib.Core.Bool.{true, false≢true}
use mathlib.Core.List.{List, [], ◌∷◌, ◌++◌, append-nil}
use Prim.Native.Nat.{ℕ, ◌+◌, ◌≤◌}
use native.Mathlib.Omega.{arith}
use lib.ListN.{length}
use lib.Dec.{eqb}
use borrow.Author.Tests.{eqb-true}
use Rattle.rules.specs.Bytes.{overlay}
use Rattle.rules.specs.Profile.{Profile}
use Rattle.rules.specs.State.{State}
use Rattle.rules.specs.Board.{Called, received}
use Rattle.laws.proofs.StateLaws.{ProfileFacts, refusal_unrefused, unrefused_profile, unrefused_state}
use Rattle.laws.proofs.TestLaws.{&&_true}
use Rattle.changed_pages.specs.ChangedPages.{changed_pages}
use Rattle.changed_pages.proofs.Pages.{pages_laid}
use Rattle.changed_pages.proofs.Counts.{finished_count}
use Rattle.ledger.specs.Ledger.{Ledger, opened, is_finalize, is_write, finalizes, count_bytes, high_low, write_address}
use Rattle.ledger.specs.Calls.{Call, Frame, Read, Reaction, Step, calls, ruled, reaction}
use Rattle.ledger.specs.Claim.{finalizing, pieces, writing, from_zero}
use Rattle.ledger.proofs.ByteStep.{finalizes_agrees}
use Rattle.ledger.proofs.CallStep.{received_enters}
use Rattle.ledger.proofs.CommitStep.{Paged}
use Rattle.ledger.proofs.Consistency.{Consistent, AfterFinalize, opened_consistent}
use Rattle.ledger.proofs.Finish.{after-finalize_copy}
use Rattle.ledger.proofs.FrameReading.{entered-finalize}
use Rattle.ledger.proofs.Joined.{finalizes-accepted, finalizes_earlier}
use Rattle.ledger.proofs.Kept.{Keeps}
use Rattle.finished_uploads.specs.Uploads.{accepting, Uploaded, NoneWaited, Stored, fed_all, FinishedUploads}
use Rattle.finished_uploads.proofs.Anew.{anew, answered_zero, answered_unrefused, received-anew}
use Rattle.finished_uploads.proofs.Traces.{Reacts, Did, trace_did, did_behind, did_keeps}
use Rattle.finished_uploads.proofs.Gathered.{Gathers, upload_gathers}

module _ (p : Profile) where
  -- the first call of an upload: not refused, and the same in a state with no upload begun
  record Begun (s : State) (d : List ℕ) (t : Step) : Type 0 where
    facts : ProfileFacts p
    room : p.offset + p.size ≤ length d
    same : calls p s d t.call ≡ calls p (anew s) d t.call

  first-begun : (s : State) (d : List ℕ) (t : Step) (c : Call) (ts : List Step) → t.call ≡ c → Reacts p s d t → accepting p t c ≡ true
      → from_zero (writing p t c ++ pieces p ts) ≡ true → Begun s d t
  first-begun s d t (Read a n) ts is did write zero = absurd (false≢true write)
  first-begun s d t (Frame a f n) ts is did write zero =
      let c : Called = received p s a f d n in
      let number : t.number ≡ c.number = did.number_is ∙ ap (λ (x : Call). (calls p s d x).number) is in
      let reply : t.reply ≡ c.reply = did.reply_is ∙ ap (λ (x : Call). (calls p s d x).reply) is in
      let accepted : is_write p.bus f c.number c.reply ≡ true = rw (← number, ← reply) write in
      let at_zero : write_address p.bus f ≡ 0 = eqb-true _ _ (&&_true (eqb (write_address p.bus f) 0) _ (rw write at zero)).0 in
      let none = answered_unrefused p s d a f n (answered_zero p.bus 0x06 f c.number c.reply accepted) in
      let un = refusal_unrefused p s (length d) n none in
      record {
        facts = unrefused_profile un;
        room = un.flash_holds;
        same = rw is (ap reaction (received-anew p s a f d at_zero n accepted));
      }

  -- the steps of an upload, in a state with no upload begun
  begun_did : (s : State) (d : List ℕ) (t : Step) (ts : List Step) → Begun s d t → Did p s d (t ∷ ts) → Did p (anew s) d (t ∷ ts)
  begun_did s d t ts b did =
      let same : calls p s d t.call ≡ calls p (anew s) d t.call = b.same in (
        record {
          number_is = did.0.number_is ∙ ap (λ (r : Reaction State). r.number) same;
          reply_is = did.0.reply_is ∙ ap (λ (r : Reaction State). r.reply) same;
          flash_is = did.0.flash_is ∙ ap (λ (r : Reaction State). r.flash) same;
        },
        subst (λ (r : Reaction State). Did p r.state t.flash ts) same did.1,
      )

  anew_keeps : (s : State) (d : List ℕ) → Keeps p (anew s) d (opened d)
  anew_keeps s d =
      record { balanced = opened_consistent p d; flash_is = refl; count_is = refl; next_is = refl; waiting_is = λ off. refl }

  -- the finalize that ends an upload, by its ledger
  module _ (d image : List ℕ) (upload : List Step) (facts : ProfileFacts p) (room : p.offset + p.size ≤ length d)
      (gathers : Gathers p d image [] (fed_all p (opened d) upload)) where
    abbrev k : Ledger
    k = fed_all p (opened d) upload

    accepted_is : k.accepted ≡ image
    accepted_is = sym (append-nil k.accepted) ∙ gathers.bytes_are

    pages : Paged p
    pages = record { page_pos = facts.page_least; sized = facts.size_paged }

    copy_is : Consistent p (finalizes p k) → AfterFinalize p (finalizes p k) → (finalizes p k).copy ≡ overlay d p.offset image
    copy_is balanced after =
        after-finalize_copy p (finalizes p k) balanced after
        ∙ ap (λ (e : List ℕ). overlay e p.offset (finalizes p k).accepted) (finalizes_earlier p k ∙ gathers.earlier_is)
        ∙ ap (overlay d p.offset) (finalizes-accepted p k ∙ accepted_is)

    count_is : length image ≤ p.size → NoneWaited p d upload → (finalizes p k).count ≡ length (changed_pages p d image)
    count_is fits none =
        let once = gathers.at_once (rw accepted_is fits) none in
        sym (finalizes_agrees p pages _ k once.going once.agrees).count_is
        ∙ rw accepted_is (finished_count p facts d room image fits)

    last_stored : (s : State) (e : List ℕ) (last : Step) (c : Call) → last.call ≡ c → Reacts p s e last → finalizing p last c ≡ true
        → Keeps p s e k → Stored p d image upload last
    last_stored s e last (Read a n) is did ended i = absurd (false≢true ended)
    last_stored s e last (Frame a f n) is did ended i =
        let c : Called = received p s a f e n in
        let number : last.number ≡ c.number = did.number_is ∙ ap (λ (x : Call). (calls p s e x).number) is in
        let reply : last.reply ≡ c.reply = did.reply_is ∙ ap (λ (x : Call). (calls p s e x).reply) is in
        let flash : last.flash ≡ c.flash = did.flash_is ∙ ap (λ (x : Call). (calls p s e x).flash) is in
        let final : is_finalize p.bus f c.number c.reply ≡ true = rw (← number, ← reply) ended in
        let enters = received_enters p s e k a f n i in
        let finalizes-is = entered-finalize p k a f c.number c.reply final in
        let keeps = rw finalizes-is at enters.keeps in
        let closed = rw finalizes-is at (enters.closes final) in
        let un =
        refusal_unrefused p s (length e) n (answered_unrefused p s e a f n (answered_zero p.bus 0x07 f c.number c.reply final)) in
        let fits : length image ≤ p.size =
        omega (arith, (unrefused_state un).upload.next_most, i.next_is, ap length accepted_is) in
        let laid : last.flash ≡ overlay d p.offset image =
        flash ∙ keeps.flash_is ∙ copy_is keeps.balanced closed.after_finalize in
        record {
          flash_is = laid;
          pages_laid = laid ∙ sym (pages_laid p d image facts.size_paged room fits);
          count_is = λ none. ap (count_bytes p.bus) reply ∙ closed.count_replied ∙ ap high_low (count_is fits none);
        }

  upload_stored : (s : State) (d image : List ℕ) (upload after : List Step) (last : Step) → Did p s d (upload ++ last ∷ after)
      → Uploaded p image upload last → Stored p d image upload last
  unfolding pieces
  upload_stored s d image [] after last did u = absurd (false≢true u.begun)
  upload_stored s d image (t ∷ ts) after last did u =
      let begun = first-begun s d t t.call ts refl did.0 u.begun u.in_order in
      let did' = begun_did s d t (ts ++ last ∷ after) begun did in
      let pages : Paged p = record { page_pos = begun.facts.page_least; sized = begun.facts.size_paged } in
      last_stored d image (t ∷ ts) begun.facts begun.room
      (upload_gathers p pages d image begun.room (t ∷ ts) u.no_reset u.in_order u.image_is)
      _ _ last last.call refl (did_behind p (t ∷ ts) (last ∷ after) (anew s) d did').0 u.ended
      (did_keeps p (t ∷ ts) (last ∷ after) (anew s) d (opened d) did' (anew_keeps s d))

pub every_upload : FinishedUploads ruled
every_upload p s d cs before upload after last is image u =
    let did = rw is at (trace_did p cs s d (opened d)) in
    upload_stored p _ _ image upload after last (did_behind p before (upload ++ last ∷ after) s d did) u
