-- Board and ledger commit in step: the board's commit lays its waiting bytes over flash (`committed-overlay`), the ledger's lays its
-- uncommitted ones over the copy (`commits-overlay`), and these are the same bytes at the same place.
use mathlib.Core.Path.{◌≡◌, sym}
use Prim.Native.Nat.{◌+◌, ◌-◌, ◌%◌, ◌<◌, ◌≤◌}
use native.Mathlib.Omega.{arith}
use lib.ListN.{length, length-drop}
use lib.Seq.{drop-length}
use Rattle.rules.specs.Profile.{Profile}
use Rattle.rules.specs.Commit.{Progress, committed}
use Rattle.laws.proofs.CommitLaws.{Fitting, committed-overlay}
use Rattle.ledger.specs.Ledger.{Ledger, commits}
use Rattle.ledger.proofs.LedgerLaws.{rest, Roomy, commits-overlay}

-- what the board holds of an upload is the ledger's
pub record Agrees (g : Progress) (k : Ledger) : Type 0 where
  pub flash_is : g.flash ≡ k.copy
  pub count_is : g.upload.count ≡ k.count
  pub next_is : g.upload.next ≡ length k.accepted
  pub waiting_is : g.upload.waiting ≡ rest k

-- a page, a working flash of whole pages
pub record Paged (p : Profile) : Type 0 where
  pub page_pos : 0 < p.page
  pub sized : p.size % p.page ≡ 0

-- the uncommitted bytes lie within one page of the working flash
pub record Within (p : Profile) (k : Ledger) : Type 0 where
  pub room : p.offset + p.size ≤ length k.copy
  pub accepted_le : length k.accepted ≤ p.size
  pub committed_le : k.committed ≤ length k.accepted
  pub in_page : k.committed % p.page + length (rest k) ≤ p.page

within_roomy : (p : Profile) (k : Ledger) → Within p k → Roomy p k
within_roomy p k w = record { committed_le = w.committed_le; room = omega (arith, w.room, w.accepted_le) }

-- where the board's waiting bytes begin is what the ledger has committed
place : (g : Progress) (k : Ledger) → Agrees g k → k.committed ≤ length k.accepted
    → g.upload.next - length g.upload.waiting ≡ k.committed
place g k a h = rw (a.waiting_is, a.next_is, length-drop) (omega arith)

agrees_fitting : (p : Profile) (g : Progress) (k : Ledger) → Paged p → Within p k → Agrees g k → Fitting p g
agrees_fitting p g k pages w a = record {
  page_pos = pages.page_pos;
  sized = pages.sized;
  room = rw a.flash_is w.room;
  next_le = rw a.next_is w.accepted_le;
  held_le = rw (a.waiting_is, a.next_is, length-drop) (omega arith);
  in_page = rw (place g k a w.committed_le, a.waiting_is) w.in_page;
}

-- the two commits keep step
pub commit_agrees : (p : Profile) (g : Progress) (k : Ledger) → Paged p → Within p k → Agrees g k → Agrees (committed p g) (commits p k)
commit_agrees p g k pages w a =
    let at = place g k a w.committed_le in
    rw (committed-overlay p g (agrees_fitting p g k pages w a), commits-overlay p k (within_roomy p k w))
    (record {
      flash_is = rw (at, a.flash_is, a.waiting_is);
      count_is = rw (at, a.flash_is, a.waiting_is, a.count_is);
      next_is = a.next_is;
      waiting_is = sym (drop-length k.accepted);
    })
