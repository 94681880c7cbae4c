-- Laws of scripts: their calls from the first record on.
use mathlib.Core.Path.{◌≡◌, refl, ap, ◌∙◌}
use mathlib.Core.Bool.{true, false}
use mathlib.Core.List.{List, [], ◌∷◌}
use Prim.Native.Nat.{ℕ, zero, suc, ◌+◌, ◌-◌, ◌≤◌}
use native.Mathlib.Omega.{arith}
use lib.ListN.{length, drop, length-drop}
use borrow.Author.Tests.{lt-leb}
use Rattle.laws.proofs.TestLaws.{by_test}
use Rattle.ledger.specs.Calls.{Call}
use Rattle.refinement.specs.Happened.{call_with}
use Rattle.script.specs.Script.{head, frame_length, whole, input, calls_of_records, calls_in}

-- any bound on the number of records will do that is at least the number of bytes
calls_of_records_enough : (n m k : ℕ) (bytes : List ℕ) → length bytes ≤ m → length bytes ≤ k
    → calls_of_records n m bytes ≡ calls_of_records n k bytes
unfolding calls_of_records
calls_of_records_enough n zero zero bytes within within' = refl
calls_of_records_enough n zero (suc k) bytes within within' = rw (lt-leb (head + frame_length bytes) (length bytes) (omega arith))
calls_of_records_enough n (suc m) zero bytes within within' = rw (lt-leb (head + frame_length bytes) (length bytes) (omega arith))
calls_of_records_enough n (suc m) (suc k) bytes within within' =
    let rest : List ℕ = drop (head + frame_length bytes) bytes in
    let shorter : length rest ≡ length bytes - (head + frame_length bytes) = length-drop (head + frame_length bytes) bytes in
    by_test (whole bytes)
    (λ e. rw e (ap (λ (cs : List Call). call_with (input bytes) n ∷ cs) (calls_of_records_enough n m k rest (omega arith) (omega arith))))
    (λ e. rw e)

module _ (n : ℕ) (bytes : List ℕ) where
  pub calls_in_record : whole bytes ≡ true
      → calls_in n bytes ≡ call_with (input bytes) n ∷ calls_in n (drop (head + frame_length bytes) bytes)
  unfolding calls_of_records
  calls_in_record e =
      let rest : List ℕ = drop (head + frame_length bytes) bytes in
      let shorter : length rest ≡ length bytes - (head + frame_length bytes) = length-drop (head + frame_length bytes) bytes in
      calls_of_records_enough n (length bytes) (suc (length bytes)) bytes (omega arith) (omega arith)
      ∙ rw e (ap (λ (cs : List Call). call_with (input bytes) n ∷ cs)
      (calls_of_records_enough n (length bytes) (length rest) rest (omega arith) (omega arith)))

  pub calls_in_end : whole bytes ≡ false → calls_in n bytes ≡ []
  unfolding calls_of_records
  calls_in_end e = calls_of_records_enough n (length bytes) (suc (length bytes)) bytes (omega arith) (omega arith) ∙ rw e
