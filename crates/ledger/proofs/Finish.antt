-- A ledger with all its bytes committed: its copy is the earlier copy with the accepted bytes laid over it, so they stand there byte by
-- byte and every other byte is as it was. By what stands at a place of an overlay.
use mathlib.Core.Path.{◌≡◌, ◌∙◌}
use lib.Seq.{take-length}
use Rattle.rules.specs.Bytes.{overlay}
use Rattle.rules.specs.Profile.{Profile}
use Rattle.ledger.specs.Ledger.{Ledger}
use Rattle.ledger.proofs.Consistency.{Consistent, AfterFinalize}

-- all accepted bytes laid over the earlier copy
pub after-finalize_copy : (p : Profile) (k : Ledger) → Consistent p k → AfterFinalize p k
    → k.copy ≡ overlay k.earlier p.offset k.accepted
after-finalize_copy p k b s = b.copy_is ∙ rw (s.all_committed_holds, take-length)
