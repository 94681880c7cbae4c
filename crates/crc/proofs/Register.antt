-- The loop of a check sum, over the algorithm: what holds of table and register after some bytes, a byte further, and after all.
use mathlib.Core.Path.{◌≡◌, sym, ap, ◌∙◌}
use mathlib.Core.Bool.{true}
use mathlib.Core.List.{List}
use Prim.Native.Nat.{ℕ, ◌≤◌, ◌<◌, ◌+◌, ◌^◌}
use lib.ListN.{length, get_or, drop, drop_of_length-le}
use Rattle.rules.specs.CheckSums.{Algorithm, run, crc}
use Rattle.laws.proofs.CheckSumLaws.{run_next}
use Rattle.crc_steps.specs.HalfBytes.{Halves, table_right, table_step, ByTable}

-- after i bytes: the table is right, and the register, within its width, gives the whole check sum when run over the other bytes
pub record Reached (width : ℕ) (k : Algorithm) (h : Halves) (bytes table : List ℕ) (v i : ℕ) : Type 0 where
  pub right : table_right k h table ≡ true
  pub v_lt : v < 2 ^ width
  pub whole : run k v (drop i bytes) ≡ crc k bytes

module _ {width : ℕ} {k : Algorithm} {h : Halves} (bytes table : List ℕ) where
  -- at the start
  pub reached_none : {v : ℕ} → table_right k h table ≡ true → k.start < 2 ^ width → v ≡ k.start → Reached width k h bytes table v 0
  reached_none right small e = record { right = right; v_lt = rw e small; whole = ap (λ (x : ℕ). run k x bytes) e }

  -- a byte further
  pub reached_next : ByTable width k h → (v i w : ℕ) → Reached width k h bytes table v i → i < length bytes → get_or bytes i 0 < 2 ^ width
      → w ≡ table_step h table v (get_or bytes i 0) → w < 2 ^ width → Reached width k h bytes table w (i + 1)
  reached_next by_table v i w reached b small e w_lt =
      let stepped = e ∙ by_table table reached.right v (get_or bytes i 0) reached.v_lt small in
      record {
        right = reached.right;
        v_lt = w_lt;
        whole = ap (λ (x : ℕ). run k x (drop (i + 1) bytes)) stepped ∙ sym (run_next k v bytes i b) ∙ reached.whole;
      }

  -- after all bytes
  pub reached_all : (v i : ℕ) → Reached width k h bytes table v i → length bytes ≤ i → v ≡ crc k bytes
  unfolding run
  reached_all v i reached b = rw (drop_of_length-le bytes b) at reached.whole
