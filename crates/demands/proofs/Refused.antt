-- Demand 1, refused calls. A number of 2 or above is a refusal or that of an ignored frame: either hands all back.
use mathlib.Core.Path.{◌≡◌}
use mathlib.Core.List.{List}
use Prim.Native.Nat.{ℕ, ◌≤◌}
use native.Mathlib.Omega.{arith}
use lib.Dec.{eqb}
use lib.ListN.{length}
use borrow.Author.Tests.{eqb-true, eqb-false}
use Rattle.rules.specs.Profile.{Profile}
use Rattle.rules.specs.State.{State}
use Rattle.rules.specs.Numbers.{refusal}
use Rattle.rules.specs.Frames.{verdict}
use Rattle.rules.specs.Board.{refused, received, read_answered, read_out}
use Rattle.laws.proofs.TestLaws.{by_test}
use Rattle.laws.proofs.BoardLaws.{handled_untouched, received-handled, received-refused}
use Rattle.demands.specs.Untouched.{RefusedUntouched}

received_untouched : (p : Profile) (s : State) (a : ℕ) (f d : List ℕ) (n : ℕ) → 2 ≤ (received p s a f d n).number
    → received p s a f d n ≡ refused (received p s a f d n).number s d
received_untouched p s a f d n h =
    by_test (eqb (refusal p s (length d) n) 0)
    (λ e.
    let is = received-handled p s d a f n (eqb-true _ _ e) in
    rw is (handled_untouched p s a f d (verdict p.bus p.longest s.running s.address a f) (rw is at h)))
    (λ e. rw (received-refused p s d a f n (eqb-false _ _ e)))

read_out_untouched : (p : Profile) (s : State) (a : ℕ) (d : List ℕ) (n : ℕ) → 2 ≤ (read_out p s a d n).number
    → read_out p s a d n ≡ refused (read_out p s a d n).number s d
unfolding read_out
read_out_untouched p s a d n h =
    by_test (eqb (refusal p s (length d) n) 0)
    (λ e.
    by_test (read_answered p.bus s a) (λ r. let z = rw (e, r) at h in absurd (omega arith))
    (λ r. let z = rw (e, r) at h in absurd (omega arith)))
    (λ e. rw e)

pub refused_untouched : RefusedUntouched
refused_untouched p s a f d n = (received_untouched p s a f d n, read_out_untouched p s a d n)
