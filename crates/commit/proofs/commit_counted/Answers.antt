-- `commit::commit_counted` meets its contract: the count rises by one exactly where the commit tells a change.
use Rattle.std.proofs.Common.{◌≡◌, sym, ◌∙◌, Bool, true, false, not, cond, List, ℕ, ◌+◌, length, take, drop}
use Rattle.rules.specs.Bytes.{same}
use Rattle.flash.specs.Committed.{Committed}
use Rattle.commit.specs.Progress.{CommitCounted}
use Rattle.commit.proofs.commit_counted.Goals as goal

-- counted by what a commit tells
counted_by_lem : (stands answered : Bool) (count : ℕ) → answered ≡ not stands → cond stands count (count + 1) ≡ cond answered (count + 1) count
counted_by_lem true answered count e = rw e
counted_by_lem false answered count e = rw e

commit_by : {d : List ℕ} {at : ℕ} {bytes : List ℕ} {answered : Bool} {d' : List ℕ} (b : Bool) (count : ℕ) → answered ≡ b
    → Committed d at bytes answered d'
    → CommitCounted d at bytes count (cond b (count + 1) count) d'
commit_by {d} {at} {bytes} b count e answered =
    record {
      counted = sym (counted_by_lem (same (take (length bytes) (drop at d)) bytes) b count (sym e ∙ answered.changed));
      laid =
          answered.laid;
    }

pub returns-then-commit : goal.returns-then-commit
returns-then-commit c = commit_by true _ c.if-commit.true c.commit.ensures

pub returns-else-commit : goal.returns-else-commit
returns-else-commit c = commit_by false _ c.if-commit.false c.commit.ensures
