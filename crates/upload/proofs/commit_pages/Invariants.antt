use Rattle.std.proofs.Common.{◌≡◌, ◌+◌, ◌-◌, ◌%◌, ◌<◌, length}
use Rattle.upload.proofs.Turns.{Reached}
use Rattle.upload.proofs.commit_pages.Given as goal

abbrev pub invariant-loop-room : goal.invariant-loop-room
invariant-loop-room l =
    Reached l.p (record { next = l.initial.next; held = l.initial.held; count = l.initial.count; waiting = l.waiting }) l.initial.flash l.bytes l.i
    (record { next = l.next; held = l.held; count = l.count; waiting = l.waiting }) l.flash
    × (l.next % l.p.page + l.room ≡ l.p.page) × (0 < l.room)

abbrev pub decreases-loop-room : goal.decreases-loop-room
decreases-loop-room l = length l.bytes - l.i
