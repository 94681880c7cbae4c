-- The demands of the code: what is written down of it is what the board of the rules does (`Observed`), of which `demand2` and `demand3`
-- are proved; demand 1 by `Kept`, W1 by `Unreserved`.
use mathlib.Core.Path.{ap, ◌∙◌}
use Rattle.rules.specs.State as rules
use Rattle.ledger.specs.Ledger.{opened}
use Rattle.ledger.specs.Calls.{ruled, trace}
use Rattle.ledger.proofs.EveryList.{demand3}
use Rattle.demands.proofs.AllRight.{demand2}
use Rattle.address_claims.specs.Addresses.{unreserved}
use Rattle.profile.specs.View.{profile_of}
use Rattle.refinement.specs.Happened.{calls_of}
use Rattle.refinement.specs.Met.{CodeMeetsDemands}
use Rattle.refinement.proofs.Observed.{steps-ruled}
use Rattle.refinement.proofs.Kept.{all_kept}
use Rattle.refinement.proofs.Unreserved.{all-unreserved}

pub code_meets_demands : CodeMeetsDemands
code_meets_demands p s d hs fresh ran =
    let begin = ap (λ (x : rules.State). trace ruled (profile_of p) x d (opened d) (calls_of hs)) fresh.viewed in
    let same = steps-ruled p s d (opened d) hs ran ∙ begin in
    let count = ap (λ (x : rules.State). x.upload.count) fresh.viewed in
    record {
      as_ruled = same;
      demand1 = all_kept p s d hs ran;
      demand2 = λ range room. rw (same, count) (demand2 (profile_of p) d (calls_of hs) range room);
      demand3 = rw same (demand3 (profile_of p) d (calls_of hs));
      addresses = all-unreserved p s d hs (ap (λ (x : rules.State). unreserved p.bus x.address) fresh.viewed) ran;
    }
