-- The same upload again counts 0. After the first finalize the ledger's copy D has the bytes; until the first accepted write nothing is
-- left to commit, so further finalizes do nothing; from that write on the accepted bytes are the first of those bytes (`Pieces`), and
-- nothing counts. A reset begins anew, or no later piece is accepted: an accepted write is at 0 or where the accepted bytes end.
use mathlib.Core.Path.{◌≡◌, refl, ap}
use mathlib.Core.Logic.{◌⊎◌, inl, inr}
use mathlib.Core.Bool.{Bool, true, false, cond, and-false, false≢true}
use mathlib.Core.List.{List, [], ◌∷◌, ◌++◌}
use Prim.Native.Nat.{ℕ, ◌<◌}
use native.Mathlib.Omega.{arith}
use lib.Dec.{eqb}
use lib.ListN.{length, get_or}
use borrow.Author.Tests.{eqb-true, le-ltb}
use Rattle.rules.specs.Profile.{Profile}
use Rattle.laws.proofs.TestLaws.{by_test, &&_true}
use Rattle.ledger.specs.Ledger.{Ledger, opened, writes, finalizes, entered, is_reset, is_write, is_finalize, write_address, write_data}
use Rattle.ledger.specs.Ledger.{reset_form, offsets}
use Rattle.ledger.specs.Calls.{Call, Frame, Read, Step, fed}
use Rattle.ledger.specs.Claim.{finalizing, finalize_step, Piece, writing, pieces, follow, joined, AcceptedAgain}
use Rattle.ledger.proofs.FrameReading.{entered-finalize}
use Rattle.ledger.proofs.Kept.{InOrder}
use Rattle.ledger.proofs.Repeat.{Has, finalizes_repeats}
use Rattle.ledger.proofs.Pieces.{Follows, Waits, opened_repeats, write_follows, write_waits, finalizes_follows, finalizes_waits}

-- each step's ledger is the one before, fed the step's call and answer; and its accepted write is in order
abbrev Ordered : Profile → Ledger → Step → Call → Type 0
Ordered p k s (Frame a f n) = InOrder p k f s.number s.reply
Ordered p k s (Read a n) = Unit

pub record Link (p : Profile) (k : Ledger) (s : Step) : Type 0 where
  pub fed_is : s.ledger ≡ fed p k s.call s.number s.reply
  pub ordered : Ordered p k s s.call

abbrev pub Chained : Profile → Ledger → List Step → Type 0
Chained p k [] = Unit
Chained p k (s ∷ ss) = Link p k s × Chained p s.ledger ss

-- the ledger after some steps
abbrev pub ends : Ledger → List Step → Ledger
ends k [] = k
ends k (s ∷ ss) = ends s.ledger ss

-- after a reset among the accepted writes: the pieces to come go on where no write is accepted any more
record Cut (ws : List Piece) (k : Ledger) : Type 0 where
  accepted_none : k.accepted ≡ []
  committed_none : k.committed ≡ 0
  count_none : k.count ≡ 0
  at : ℕ
  at_least : 0 < at
  follows : follow at ws ≡ true

-- before the first accepted write, within them, or cut off
data Phase (D bs : List ℕ) (ws : List Piece) (k : Ledger) : Type 0 where
  before : Waits D bs ws k → Phase D bs ws k
  within : Follows D bs ws k → Phase D bs ws k
  cut : Cut ws k → Phase D bs ws k

module _ (p : Profile) (D bs : List ℕ) (has : Has p D bs) where
  -- a write is in order, so none is accepted once the pieces are cut off
  cut_write : (w : Piece) (ws : List Piece) (k : Ledger) → Cut (w ∷ ws) k → (w.address ≡ 0) ⊎ (w.address ≡ length k.accepted) → ⊥
  cut_write w ws k i place =
      let here : w.address ≡ i.at = eqb-true _ _ (&&_true (eqb w.address i.at) _ i.follows).0 in
      let none : length k.accepted ≡ 0 = ap length i.accepted_none in
      go here none i.at_least place
    where
      go : {at : ℕ} → w.address ≡ at → length k.accepted ≡ 0 → 0 < at → (w.address ≡ 0) ⊎ (w.address ≡ length k.accepted) → ⊥
      go here none least (inl zero) = omega arith
      go here none least (inr next) = omega arith

  write_phase : (w : Piece) (ws : List Piece) (k : Ledger) → (w.address ≡ 0) ⊎ (w.address ≡ length k.accepted)
      → Phase D bs (w ∷ ws) k → Phase D bs ws (writes p k w.address w.bytes)
  write_phase w ws k place (before i) = within (write_waits p D bs has w ws k i)
  write_phase w ws k place (within i) = within (write_follows p D bs has w ws k i)
  write_phase w ws k place (cut i) = absurd (cut_write w ws k i place)

  -- with no bytes a finalize finds nothing to commit
  finalizes_none : (ws : List Piece) (k : Ledger) → Cut ws k → finalizes p k ≡ k
  unfolding finalizes
  finalizes_none ws k i =
      let none : length k.accepted ≡ 0 = ap length i.accepted_none in
      rw (le-ltb k.committed (length k.accepted) (omega (arith, i.committed_none)))

  finalizes_phase : (ws : List Piece) (k : Ledger) → Phase D bs ws k → Phase D bs ws (finalizes p k)
  finalizes_phase ws k (before i) = before (finalizes_waits p D bs has ws k i)
  finalizes_phase ws k (within i) = within (finalizes_follows p D bs has ws k i)
  finalizes_phase ws k (cut i) = rw (finalizes_none ws k i) (cut i)

  -- a reset begins anew where no byte came yet, and cuts the pieces off where some did
  reset_within : (ws : List Piece) (k : Ledger) → Follows D bs ws k → (l : List ℕ) → k.accepted ≡ l → Phase D bs ws (opened k.copy)
  reset_within ws k i [] e =
      within (record {
        repeats = opened_repeats p D bs has (joined ws) k i.repeats.copy_is (rw e at i.repeats.bytes_are);
        follows = rw e at i.follows;
      })
  reset_within ws k i (x ∷ xs) e =
      cut (record {
        accepted_none = refl;
        committed_none = refl;
        count_none = refl;
        at = length k.accepted;
        at_least = rw e (omega arith);
        follows = i.follows;
      })

  reset_phase : (ws : List Piece) (k : Ledger) → Phase D bs ws k → Phase D bs ws (opened k.copy)
  reset_phase ws k (before i) =
      before (record { copy_is = i.copy_is; all_committed_holds = refl; from_zero_holds = i.from_zero_holds; bytes_are = i.bytes_are })
  reset_phase ws k (within i) = reset_within ws k i k.accepted refl
  reset_phase ws k (cut i) =
      cut (record {
        accepted_none = refl;
        committed_none = refl;
        count_none = refl;
        at = i.at;
        at_least = i.at_least;
        follows = i.follows;
      })

  -- a reset answers 1, so it is no accepted write
  reset_unwritten : (a : ℕ) (f : List ℕ) (n : ℕ) (r : List ℕ) → is_reset p.bus a f n ≡ true → is_write p.bus f n r ≡ false
  reset_unwritten a f n r e =
      let one : n ≡ 1 = eqb-true n 1 (&&_true (reset_form p.bus a f) (eqb n 1) e).1 in
      rw one (and-false (eqb (get_or f (offsets p.bus).command 0) 0x06))

  step_phase : (s : Step) (c : Call) (ws : List Piece) (k : Ledger) → Ordered p k s c → Phase D bs (writing p s c ++ ws) k
      → Phase D bs ws (fed p k c s.number s.reply)
  unfolding entered
  step_phase s (Read a n) ws k order i = i
  step_phase s (Frame a f n) ws k order i =
      by_test (is_reset p.bus a f s.number)
      (λ reset. rw reset (reset_phase ws k (rw (reset_unwritten a f s.number s.reply reset) at i)))
      (λ other. rw other (go (is_write p.bus f s.number s.reply) (is_finalize p.bus f s.number s.reply) order i))
    where
      w : Piece
      w = record { address = write_address p.bus f; bytes = write_data p.bus f }

      go : (t z : Bool) → (t ≡ true → (w.address ≡ 0) ⊎ (w.address ≡ length k.accepted)) → Phase D bs (cond t (w ∷ []) [] ++ ws) k
          → Phase D bs ws (cond t (writes p k w.address w.bytes) (cond z (finalizes p k) k))
      go true z order i = write_phase w ws k (order refl) i
      go false true order i = finalizes_phase ws k i
      go false false order i = i

  steps_phase : (ss : List Step) (k : Ledger) → Chained p k ss → Phase D bs (pieces p ss) k → Phase D bs [] (ends k ss)
  unfolding pieces
  steps_phase [] k chain i = i
  steps_phase (s ∷ ss) k chain i =
      steps_phase ss s.ledger chain.1
      (rw chain.0.fed_is (step_phase s s.call (pieces p ss) k chain.0.ordered i))

  -- a finalize after all pieces counts 0
  finalize-zero : (s : Step) (c : Call) (k : Ledger) → finalizing p s c ≡ true → Phase D bs [] k
      → (fed p k c s.number s.reply).count ≡ 0
  finalize-zero s c k e (before i) = absurd (false≢true i.from_zero_holds)
  finalize-zero s (Read a n) k e (within i) = absurd (false≢true e)
  finalize-zero s (Read a n) k e (cut i) = absurd (false≢true e)
  finalize-zero s (Frame a f n) k e (within i) =
      rw (entered-finalize p k a f s.number s.reply e) (finalizes_repeats p D bs has [] k i.repeats).count_is
  finalize-zero s (Frame a f n) k e (cut i) =
      rw (entered-finalize p k a f s.number s.reply e, finalizes_none [] k i) i.count_none

-- after a ledger whose bytes are all committed and stand in its copy: the same bytes again, and a finalize
pub again_zero : (p : Profile) (k : Ledger) (between : List Step) (second : Step) → Has p k.copy k.accepted
    → k.committed ≡ length k.accepted
    → Chained p k between → AcceptedAgain p k.accepted between
    → second.ledger ≡ fed p (ends k between) second.call second.number second.reply → finalize_step p second ≡ true
    → second.ledger.count ≡ 0
again_zero p k between second has all chain again fed_is e =
    let start : Waits k.copy k.accepted (pieces p between) k =
    record { copy_is = refl; all_committed_holds = all; from_zero_holds = again.from_zero_holds; bytes_are = again.same_bytes } in
    rw fed_is
    (finalize-zero p k.copy k.accepted has second second.call (ends k between) e
    (steps_phase p k.copy k.accepted has between k chain (before start)))
