-- What bytes that join a ledger, and a finalize, leave alone: the accepted bytes grow by those that join, the earlier copy stays, and only
-- a finalize moves f.
use mathlib.Core.Path.{◌≡◌, refl, sym, ap, ◌∙◌}
use mathlib.Core.Bool.{Bool, true, false, cond}
use mathlib.Core.List.{List, [], ◌∷◌, ◌++◌, append_assoc, append-nil}
use Prim.Native.Nat.{ℕ, ◌+◌, ◌%◌}
use lib.Dec.{eqb, ltb}
use lib.ListN.{length, length-append}
use Rattle.rules.specs.Profile.{Profile}
use Rattle.laws.proofs.TestLaws.{by_test}
use Rattle.ledger.specs.Ledger.{Ledger, commits, joins, joins_all, finalizes}
use Rattle.ledger.proofs.Consistency.{more, final_counted}

pub record Joined (k : Ledger) (bs : List ℕ) (j : Ledger) : Type 0 where
  pub accepted_is : j.accepted ≡ k.accepted ++ bs
  pub earlier_is : j.earlier ≡ k.earlier
  pub finals_is : j.finals ≡ k.finals

joins-joined : (p : Profile) (k : Ledger) (b : ℕ) → Joined k (b ∷ []) (joins p k b)
unfolding joins commits
joins-joined p k b = go (eqb (length (more k b).accepted % p.page) 0)
  where
    go : (t : Bool) → Joined k (b ∷ []) (cond t (commits p (more k b)) (more k b))
    go true = record { accepted_is = refl; earlier_is = refl; finals_is = refl }
    go false = record { accepted_is = refl; earlier_is = refl; finals_is = refl }

pub joins_all-joined : (p : Profile) (bs : List ℕ) (k : Ledger) → Joined k bs (joins_all p k bs)
unfolding joins_all
joins_all-joined p [] k = record { accepted_is = sym (append-nil k.accepted); earlier_is = refl; finals_is = refl }
joins_all-joined p (b ∷ bs) k =
    let one = joins-joined p k b in
    let all = joins_all-joined p bs (joins p k b) in
    record {
      accepted_is = all.accepted_is ∙ rw one.accepted_is (append_assoc k.accepted (b ∷ []) bs);
      earlier_is = all.earlier_is ∙ one.earlier_is;
      finals_is = all.finals_is ∙ one.finals_is;
    }

pub length-joins_all : (p : Profile) (bs : List ℕ) (k : Ledger) → length (joins_all p k bs).accepted ≡ length k.accepted + length bs
length-joins_all p bs k = ap length (joins_all-joined p bs k).accepted_is ∙ length-append k.accepted bs

-- a finalize that commits leaves both alone, and so does one that does not
finalizes_kept : {A : Type 0} (get : Ledger → A) (p : Profile) (k : Ledger) → get (commits p (final_counted k)) ≡ get k
    → get (finalizes p k) ≡ get k
unfolding finalizes
finalizes_kept get p k kept = by_test (ltb k.committed (length k.accepted)) (λ some. rw some kept) (λ none. rw none)

pub finalizes-accepted : (p : Profile) (k : Ledger) → (finalizes p k).accepted ≡ k.accepted
unfolding commits
finalizes-accepted p k = finalizes_kept (λ (l : Ledger). l.accepted) p k refl

pub finalizes_earlier : (p : Profile) (k : Ledger) → (finalizes p k).earlier ≡ k.earlier
unfolding commits
finalizes_earlier p k = finalizes_kept (λ (l : Ledger). l.earlier) p k refl
