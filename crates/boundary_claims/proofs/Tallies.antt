-- The tally's bytes over a list of C calls: each call's bytes say the tally before, counted (`tally_bytes`), so the counters are those of
-- `tally_claims`.
use mathlib.Core.Path.{◌≡◌, refl, ap, ◌∙◌}
use mathlib.Core.List.{List, [], ◌∷◌, ◌++◌}
use Prim.Native.Nat.{ℕ, ◌≤◌, ◌<◌}
use native.Mathlib.Omega.{arith}
use lib.Dec.{leb}
use lib.ListN.{length, drop}
use borrow.Author.Tests.{leb-true, leb-false}
use Rattle.laws.proofs.TestLaws.{by_test}
use Rattle.laws.proofs.LaidLaws.{length-laid, drop-laid}
use Rattle.fields.specs.Fields.{Bytes}
use Rattle.tally.specs.declared.Tally.{Tally}
use Rattle.tally.specs.Tally.{tallied}
use Rattle.tally_bytes.specs.TallyBytes.{tally_size, tally_at, tally_bytes, tally_left}
use Rattle.tally_bytes.proofs.Laws.{left_short, left-counted, both_ways}
use Rattle.tally_claims.specs.Counting.{AtMost, full}
use Rattle.tally_claims.proofs.Counters.{after, after-summed}
use Rattle.boundary_claims.specs.Calls.{Call, Receive, Read, Left, left}
use Rattle.boundary_claims.specs.Tallies.{tally_call, tally_after, number_of, numbers_of, BoundaryCounts}

left-length : (b : List ℕ) (n : ℕ) → length (tally_left b n) ≡ length b
left-length b n =
    by_test (leb tally_size (length b))
    (λ e.
    let room : tally_size ≤ length b = leb-true _ _ e in
    ap length (left-counted b n room) ∙ length-laid (tally_bytes (tallied (tally_at b) n)) b room)
    (λ e. ap length (left_short b n (leb-false _ _ e)))

left-rest : (b : List ℕ) (n : ℕ) → drop tally_size (tally_left b n) ≡ drop tally_size b
left-rest b n =
    by_test (leb tally_size (length b))
    (λ e. ap (λ (l : List ℕ). drop tally_size l) (left-counted b n (leb-true _ _ e)) ∙ drop-laid (tally_bytes (tallied (tally_at b) n)) b 0)
    (λ e. ap (λ (l : List ℕ). drop tally_size l) (left_short b n (leb-false _ _ e)))

module _ (profile : List ℕ) where
  -- one call
  call_length : (state flash tally : List ℕ) (c : Call) → length (tally_call profile state flash tally c) ≡ length tally
  call_length state flash tally (Receive a f out) = left-length tally _
  call_length state flash tally (Read a out) = refl

  call-rest : (state flash tally : List ℕ) (c : Call) → drop tally_size (tally_call profile state flash tally c) ≡ drop tally_size tally
  call-rest state flash tally (Receive a f out) = left-rest tally _
  call-rest state flash tally (Read a out) = refl

  call_short : (state flash tally : List ℕ) (c : Call) → length tally < tally_size → tally_call profile state flash tally c ≡ tally
  call_short state flash tally (Receive a f out) h = left_short tally _ h
  call_short state flash tally (Read a out) h = refl

  call-after : (state flash tally : List ℕ) (c : Call) (ns : List ℕ) → tally_size ≤ length tally
      → after (tally_at (tally_call profile state flash tally c)) ns
      ≡ after (tally_at tally) (number_of c (left profile state flash c).number ++ ns)
  unfolding left
  call-after state flash tally (Receive a f out) ns room = ap (λ (t : Tally). after t ns) (both_ways.counted tally _ room)
  call-after state flash tally (Read a out) ns room = refl

  -- a list
  all_after : (state flash tally : List ℕ) (cs : List Call) → tally_size ≤ length tally
      → tally_at (tally_after profile state flash tally cs) ≡ after (tally_at tally) (numbers_of profile state flash cs)
  unfolding tally_after numbers_of
  all_after state flash tally [] room = refl
  all_after state flash tally (c ∷ cs) room =
      let l : Left = left profile state flash c in
      all_after l.state l.flash (tally_call profile state flash tally c) cs (rw (call_length state flash tally c) room)
      ∙ call-after state flash tally c (numbers_of profile l.state l.flash cs) room

  all_rest : (state flash tally : List ℕ) (cs : List Call)
      → drop tally_size (tally_after profile state flash tally cs) ≡ drop tally_size tally
  unfolding tally_after
  all_rest state flash tally [] = refl
  all_rest state flash tally (c ∷ cs) =
      let l : Left = left profile state flash c in
      all_rest l.state l.flash (tally_call profile state flash tally c) cs ∙ call-rest state flash tally c

  all_short : (state flash tally : List ℕ) (cs : List Call) → length tally < tally_size → tally_after profile state flash tally cs ≡ tally
  unfolding tally_after
  all_short state flash tally [] h = refl
  all_short state flash tally (c ∷ cs) h =
      let l : Left = left profile state flash c in
      all_short l.state l.flash (tally_call profile state flash tally c) cs (rw (call_length state flash tally c) h)
      ∙ call_short state flash tally c h

at_most : (b : List ℕ) → Bytes b → AtMost (tally_at b) full
at_most b bytes =
    let fits = (both_ways.tally_fits b 0 bytes).0 in
    record {
      short = omega (arith, fits.short);
      long = omega (arith, fits.long);
      sum = omega (arith, fits.sum);
      foreign = omega (arith, fits.foreign);
      answered = omega (arith, fits.answered);
    }

pub boundary_counts : BoundaryCounts
boundary_counts profile state flash tally cs bytes = record {
  counts = λ room.
      all_after profile state flash tally cs room ∙ after-summed (tally_at tally) (numbers_of profile state flash cs) (at_most tally bytes);
  rest = all_rest profile state flash tally cs;
  too_short = all_short profile state flash tally cs;
}
