-- `upload::commit_pages` meets its contract. Invariant: `Reached`, where the first i bytes lead, and the room in the page of the next
-- address. A turn fills that page, by `page_committed`.
use Rattle.std.proofs.Common.{◌≡◌, ◌+◌, ◌-◌, arith, length, take, drop, length-take, length-drop}
use Rattle.commit.proofs.Laws.{ready_bounds}
use Rattle.upload.proofs.Turns.{reached_none, page_ended, page_committed}
use Rattle.upload.proofs.commit_pages.Goals as goal

pub nonzero_rem-room : goal.nonzero_rem-room
nonzero_rem-room c = (ready_bounds c.requires.ready).profile.page_least

pub overflow_sub-room : goal.overflow_sub-room
overflow_sub-room c = omega (arith, (ready_bounds c.requires.ready).in_page)

pub loop-room-init : goal.loop-room-init
loop-room-init c =
    let below = (ready_bounds c.requires.ready).in_page in (
      reached_none c.args.flash.now c.requires.ready c.args.bytes.now c.requires.bytes_bound c.requires.waiting_len,
      omega arith,
      omega arith,
    )

pub slice_bounds-commit_counted-end : goal.slice_bounds-commit_counted-end
slice_bounds-commit_counted-end c = simp length-take (omega arith)

pub commit_counted-count-requires : goal.commit_counted-count-requires
commit_counted-count-requires c = simp (length-take, length-drop) (omega arith)

pub loop-room-preserved : goal.loop-room-preserved
loop-room-preserved c =
    let whole = page_ended c.args.p.page c.loop-room.next c.loop-room.room c.loop-room.invariant.1 in
    let many : c.loop-room.i + c.loop-room.room - c.loop-room.i ≡ c.loop-room.room = omega arith in
    let settled = rw many at c.commit_counted-count.ensures in (
      page_committed c.loop-room.room c.requires.ready c.requires.bytes_bound c.loop-room.invariant.0 (omega arith) (omega arith) c.loop-room.invariant.2 whole settled,
      omega (arith, whole),
      c.loop-room.invariant.0.page_least,
    )

pub returns : goal.returns
returns c =
    record {
      used_most = c.loop-room.invariant.0.reached_most;
      progress = c.loop-room.invariant.0.progress;
      rest_short = omega arith;
    }
