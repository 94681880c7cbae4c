-- Accepted writes one after the other, of bytes that flash has already: before the first of them all is committed, and from it on each
-- begins where the one before ended, so that by `Repeat` the ledger's copy and count stay.
use mathlib.Core.Path.{◌≡◌, refl, sym, ◌∙◌}
use mathlib.Core.Bool.{Bool, true, false, cond}
use mathlib.Core.List.{List, [], ◌∷◌, ◌++◌}
use Prim.Native.Nat.{ℕ, ◌+◌}
use native.Mathlib.Omega.{arith}
use native.Mathlib.Nat.{le_refl, zero-add}
use lib.Dec.{eqb}
use lib.ListN.{length}
use borrow.Author.Tests.{eqb-true, le-ltb}
use Rattle.rules.specs.Profile.{Profile}
use Rattle.laws.proofs.BytesLaws.{length-zero}
use Rattle.laws.proofs.TestLaws.{&&_true}
use Rattle.ledger.specs.Ledger.{Ledger, opened, joins_all, writes, finalizes}
use Rattle.ledger.specs.Claim.{Piece, follow, from_zero, joined}
use Rattle.ledger.proofs.Joined.{length-joins_all, finalizes-accepted}
use Rattle.ledger.proofs.Repeat.{Has, Repeats, joins_all_repeats, finalizes_repeats}

-- the pieces ws are to come, each where the one before ends
pub record Follows (D bs : List ℕ) (ws : List Piece) (k : Ledger) : Type 0 where
  pub repeats : Repeats D bs (joined ws) k
  pub follows : follow (length k.accepted) ws ≡ true

-- no piece yet: nothing is left to commit
pub record Waits (D bs : List ℕ) (ws : List Piece) (k : Ledger) : Type 0 where
  pub copy_is : k.copy ≡ D
  pub all_committed_holds : k.committed ≡ length k.accepted
  pub from_zero_holds : from_zero ws ≡ true
  pub bytes_are : joined ws ≡ bs

module _ (p : Profile) (D bs : List ℕ) (has : Has p D bs) where
  -- a ledger opened anew, with all bytes to come
  pub opened_repeats : (ys : List ℕ) (k : Ledger) → k.copy ≡ D → ys ≡ bs → Repeats D bs ys (opened k.copy)
  opened_repeats ys k copy e = record { copy_is = copy; count_is = refl; committed_le = le_refl _; bytes_are = e }

  -- bytes that join, and then pieces that follow
  joined_follows : (xs : List ℕ) (ws : List Piece) (k : Ledger) → Repeats D bs (xs ++ joined ws) k
      → follow (length k.accepted + length xs) ws ≡ true
      → Follows D bs ws (joins_all p k xs)
  joined_follows xs ws k r e = record {
    repeats = joins_all_repeats p D bs has xs (joined ws) k r;
    follows = rw (length-joins_all p xs k) e;
  }

  pub write_follows : (w : Piece) (ws : List Piece) (k : Ledger) → Follows D bs (w ∷ ws) k
      → Follows D bs ws (writes p k w.address w.bytes)
  unfolding writes
  write_follows w ws k i = go (eqb w.address 0) refl
    where
      both : (eqb w.address (length k.accepted) ≡ true) × (follow (length k.accepted + length w.bytes) ws ≡ true)
      both = &&_true _ _ i.follows

      go : (t : Bool) → eqb w.address 0 ≡ t → Follows D bs ws (joins_all p (cond t (opened k.copy) k) w.bytes)
      go true e =
          let none : k.accepted ≡ [] = length-zero k.accepted (sym (eqb-true _ _ both.0) ∙ eqb-true _ _ e) in
          joined_follows w.bytes ws (opened k.copy)
          (opened_repeats (joined (w ∷ ws)) k i.repeats.copy_is (rw none at i.repeats.bytes_are))
          (rw none at both.1)
      go false e = joined_follows w.bytes ws k i.repeats both.1

  pub write_waits : (w : Piece) (ws : List Piece) (k : Ledger) → Waits D bs (w ∷ ws) k
      → Follows D bs ws (writes p k w.address w.bytes)
  unfolding writes
  write_waits w ws k i =
      let both = &&_true (eqb w.address 0) (follow (length w.bytes) ws) i.from_zero_holds in
      rw both.0
      (joined_follows w.bytes ws (opened k.copy) (opened_repeats (joined (w ∷ ws)) k i.copy_is i.bytes_are)
      (rw zero-add both.1))

  pub finalizes_follows : (ws : List Piece) (k : Ledger) → Follows D bs ws k → Follows D bs ws (finalizes p k)
  finalizes_follows ws k i = record {
    repeats = finalizes_repeats p D bs has (joined ws) k i.repeats;
    follows = rw (finalizes-accepted p k) i.follows;
  }

  -- a finalize that finds all committed
  pub finalizes_waits : (ws : List Piece) (k : Ledger) → Waits D bs ws k → Waits D bs ws (finalizes p k)
  unfolding finalizes
  finalizes_waits ws k i = rw (le-ltb k.committed (length k.accepted) (omega (arith, i.all_committed_holds))) i
