-- Demand 3 of the rules' board, by induction over the list of calls: fresh state and given flash are the new ledger's, and every call keeps
-- it so (`CallStep`). What is claimed of a step is read off there; the claim of two finalizes is the ledger's alone (`Again`).
use mathlib.Core.Path.{◌≡◌, refl, sym, ap, ◌∙◌}
use mathlib.Core.Bool.{true, false≢true}
use mathlib.Core.List.{List, [], ◌∷◌, ◌++◌, append_assoc}
use Prim.Native.Nat.{ℕ}
use native.Mathlib.Omega.{arith}
use Rattle.rules.specs.Profile.{Profile}
use Rattle.rules.specs.State.{State, fresh}
use Rattle.rules.specs.Commit.{OutsideKept}
use Rattle.laws.proofs.UploadLaws.{outside_refl, outside_trans}
use Rattle.laws.proofs.BoardLaws.{received_outside, read_out_flash}
use Rattle.laws.proofs.OverlayLaws.{get_or-overlay_inside, get_or-overlay_outside, take-overlay}
use Rattle.ledger.specs.Ledger.{Ledger, opened, count_bytes, high_low}
use Rattle.ledger.specs.Calls.{Call, Frame, Read, Step, calls, ruled, fed, stepped, trace}
use Rattle.ledger.specs.Claim.{finalize_step, AcceptedAgain, Finished, Right, Every, Demand3}
use Rattle.ledger.proofs.Consistency.{Consistent, AfterFinalize}
use Rattle.ledger.proofs.Kept.{Keeps, fresh_keeps, Closed}
use Rattle.ledger.proofs.CallStep.{received_enters, read_out_keeps}
use Rattle.ledger.proofs.Finish.{after-finalize_copy}
use Rattle.ledger.proofs.Repeat.{Has}
use Rattle.ledger.proofs.Again.{Link, Chained, ends, again_zero}

-- what is claimed of a step, and what `Again` asks of a finalize
record Good (p : Profile) (s : Step) : Type 0 where
  right : Right p s
  balanced : Consistent p s.ledger
  after_finalize : finalize_step p s ≡ true → AfterFinalize p s.ledger

-- an answered finalize
closed-finished : (p : Profile) (s : Step) → s.flash ≡ s.ledger.copy → Consistent p s.ledger → Closed p s.ledger s.reply
    → Finished p s
closed-finished p s flash b c =
    let copy = flash ∙ after-finalize_copy p s.ledger b c.after_finalize in
    let room = c.after_finalize.room in
    record {
      reply_count = c.count_replied;
      bytes_stand = λ i h. rw copy (get_or-overlay_inside s.ledger.earlier p.offset s.ledger.accepted room i h);
      others_kept = λ i h. rw copy (get_or-overlay_outside s.ledger.earlier p.offset s.ledger.accepted room i h);
      length_kept = rw flash (sym b.as_long);
    }

keeps_good : (p : Profile) (x : State) (s : Step) → Keeps p x s.flash s.ledger → s.count ≡ x.upload.count
    → (finalize_step p s ≡ true → Closed p s.ledger s.reply) → Good p s
keeps_good p x s i count closes = record {
  right = record {
    flash_is = i.flash_is;
    count_is = count ∙ i.count_is;
    count_bytes_holds = omega (arith, count, i.count_is, i.balanced.count_le, i.balanced.committed_le);
    count_pages = rw (count, i.count_is) i.balanced.pages_le;
    finished = λ e. closed-finished p s i.flash_is i.balanced (closes e);
  };
  balanced = i.balanced;
  after_finalize = λ e. (closes e).after_finalize;
}

-- one call
pub call_keeps : (p : Profile) (s : State) (d : List ℕ) (k : Ledger) (c : Call) → Keeps p s d k
    → Keeps p (calls p s d c).state (calls p s d c).flash (fed p k c (calls p s d c).number (calls p s d c).reply)
call_keeps p s d k (Frame a f m) i = (received_enters p s d k a f m i).keeps
call_keeps p s d k (Read a m) i = read_out_keeps p s d k a m i

call_good : (p : Profile) (s : State) (d : List ℕ) (k : Ledger) (c : Call) → Keeps p s d k → Good p (stepped ruled p k c (calls p s d c))
call_good p s d k (Frame a f m) i =
    keeps_good p _ _ (call_keeps p s d k (Frame a f m) i) refl (received_enters p s d k a f m i).closes
call_good p s d k (Read a m) i = keeps_good p _ _ (call_keeps p s d k (Read a m) i) refl (λ e. absurd (false≢true e))

-- all calls

trace_good : (p : Profile) (cs : List Call) (s : State) (d : List ℕ) (k : Ledger) → Keeps p s d k → Every (Good p) (trace ruled p s d k cs)
unfolding trace
trace_good p [] s d k i = tt
trace_good p (c ∷ cs) s d k i = (call_good p s d k c i, trace_good p cs _ _ _ (call_keeps p s d k c i))

call_link : (p : Profile) (s : State) (d : List ℕ) (k : Ledger) (c : Call) → Keeps p s d k → Link p k (stepped ruled p k c (calls p s d c))
call_link p s d k (Frame a f m) i = record { fed_is = refl; ordered = (received_enters p s d k a f m i).in_order }
call_link p s d k (Read a m) i = record { fed_is = refl; ordered = tt }

trace_chained : (p : Profile) (cs : List Call) (s : State) (d : List ℕ) (k : Ledger) → Keeps p s d k → Chained p k (trace ruled p s d k cs)
unfolding trace
trace_chained p [] s d k i = tt
trace_chained p (c ∷ cs) s d k i = (call_link p s d k c i, trace_chained p cs _ _ _ (call_keeps p s d k c i))

every_right : (p : Profile) (ss : List Step) → Every (Good p) ss → Every (Right p) ss
every_right p [] all = tt
every_right p (s ∷ ss) all = (all.0.right, every_right p ss all.1)

-- bytes outside the working flash
call_outside : (p : Profile) (s : State) (d : List ℕ) (c : Call) → OutsideKept p d (calls p s d c).flash
call_outside p s d (Frame a f m) = received_outside p s d a f m
call_outside p s d (Read a m) = rw (read_out_flash p s a d m) (outside_refl p d)

trace_outside : (p : Profile) (first : List ℕ) (cs : List Call) (s : State) (d : List ℕ) (k : Ledger) → OutsideKept p first d
    → Every (λ (t : Step). OutsideKept p first t.flash) (trace ruled p s d k cs)
unfolding trace
trace_outside p first [] s d k kept = tt
trace_outside p first (c ∷ cs) s d k kept =
    let next = outside_trans kept (call_outside p s d c) in
    (next, trace_outside p first cs _ _ _ next)

-- the parts of a list of steps

every_behind : (p : Profile) (before ss : List Step) → Every (Good p) (before ++ ss) → Every (Good p) ss
every_behind p [] ss all = all
every_behind p (s ∷ before) ss all = every_behind p before ss all.1

chained_behind : (p : Profile) (k : Ledger) (before ss : List Step) → Chained p k (before ++ ss) → Chained p (ends k before) ss
chained_behind p k [] ss chain = chain
chained_behind p k (s ∷ before) ss chain = chained_behind p s.ledger before ss chain.1

chained_front : (p : Profile) (k : Ledger) (between ss : List Step) → Chained p k (between ++ ss) → Chained p k between
chained_front p k [] ss chain = tt
chained_front p k (s ∷ between) ss chain = (chain.0, chained_front p s.ledger between ss chain.1)

-- after a finalize the copy has the accepted bytes
after-finalize_has : (p : Profile) (k : Ledger) → Consistent p k → AfterFinalize p k → Has p k.copy k.accepted
after-finalize_has p k b s = record {
  room = omega (arith, s.room, b.as_long);
  there = rw (after-finalize_copy p k b s) (take-overlay k.earlier p.offset k.accepted s.room);
}

-- two finalizes, with the bytes of the first accepted again between them
again_holds : (p : Profile) (k : Ledger) (before between after : List Step) (first second : Step)
    → Every (Good p) (before ++ first ∷ between ++ second ∷ after) → Chained p k (before ++ first ∷ between ++ second ∷ after)
    → finalize_step p first ≡ true → finalize_step p second ≡ true → AcceptedAgain p first.ledger.accepted between
    → count_bytes p.bus second.reply ≡ high_low 0
again_holds p k before between after first second good chain e z again =
    let rest : List Step = between ++ second ∷ after in
    let good' = every_behind p before (first ∷ rest) (rw (append_assoc before (first ∷ between)) at good) in
    let chain' = (chained_behind p k before (first ∷ rest) (rw (append_assoc before (first ∷ between)) at chain)).1 in
    let after_finalize = good'.0.after_finalize e in
    let has = after-finalize_has p first.ledger good'.0.balanced after_finalize in
    let link = (chained_behind p first.ledger between (second ∷ after) chain').0.fed_is in
    ((every_behind p between (second ∷ after) good'.1).0.right.finished z).reply_count
    ∙ ap high_low (again_zero p first.ledger between second has after_finalize.all_committed_holds
    (chained_front p first.ledger between (second ∷ after) chain') again link z)

pub demand3 : Demand3 ruled
demand3 p d cs =
    let i = fresh_keeps p d d refl in
    let good = trace_good p cs fresh d (opened d) i in
    let chain = trace_chained p cs fresh d (opened d) i in
    record {
      each = every_right p (trace ruled p fresh d (opened d) cs) good;
      outside = trace_outside p d cs fresh d (opened d) (outside_refl p d);
      again =
          λ before between after first second is. again_holds p (opened d) before between after first second (rw is at good)
          (rw is at chain);
    }
