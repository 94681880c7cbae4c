-- The demands of the C boundary: what is written down of it is what the board of the rules does (`Followed`), of which they are proved.
use mathlib.Core.Path.{ap, ◌∙◌}
use Rattle.rules.specs.State as states
use Rattle.ledger.specs.Ledger.{opened}
use Rattle.ledger.specs.Calls.{ruled, trace}
use Rattle.ledger.proofs.EveryList.{demand3}
use Rattle.demands.proofs.AllRight.{demand2}
use Rattle.demands.proofs.Demand1.{demand1}
use Rattle.address_claims.specs.Addresses.{unreserved}
use Rattle.profile.specs.View.{profile_of}
use Rattle.profile_bytes.specs.ProfileBytes.{profile_at}
use Rattle.childbus_board.specs.BoardBytes.{fresh_left}
use Rattle.childbus_board.proofs.KeptLaws.{fresh_says}
use Rattle.boundary_claims.specs.Calls.{calls_of}
use Rattle.boundary_claims.specs.Met.{BoundaryMeetsDemands}
use Rattle.boundary_claims.proofs.Followed.{steps-ruled}
use Rattle.boundary_claims.proofs.Refused.{all-refused}
use Rattle.boundary_claims.proofs.Unreserved.{all-unreserved}

pub boundary_meets_demands : BoundaryMeetsDemands
boundary_meets_demands profile buffer flash cs long =
    let begin =
    ap (λ (x : states.State). trace ruled (profile_of (profile_at profile)) x flash (opened flash) (calls_of cs))
    (fresh_says buffer long) in
    let same = steps-ruled profile (fresh_left buffer).state flash (opened flash) cs ∙ begin in
    record {
      as_ruled = same;
      refused = all-refused profile (fresh_left buffer).state flash cs;
      demand1 = rw same (demand1 (profile_of (profile_at profile)) flash (calls_of cs));
      demand2 = λ range room. rw same (demand2 (profile_of (profile_at profile)) flash (calls_of cs) range room);
      demand3 = rw same (demand3 (profile_of (profile_at profile)) flash (calls_of cs));
      addresses =
          all-unreserved profile (fresh_left buffer).state flash cs
          (ap (λ (x : states.State). unreserved (profile_at profile).bus x.address) (fresh_says buffer long));
    }
