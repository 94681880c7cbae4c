-- `finished_uploads::all_between` meets its contract: computed.
use Rattle.std.proofs.Common.{refl, List, [], ◌∷◌, ◌++◌, take}
use Rattle.ledger.specs.Calls.{Step, ruled, traced}
use Rattle.ledger.specs.Reached.{sent}
use Rattle.wrongboards.proofs.Computing.{computing}
use Rattle.finished_uploads.specs.Uploads.{fed_all}
use Rattle.finished_uploads.specs.Between.{board, flash_before, upload_calls, AllBetween}
use Rattle.finished_uploads.proofs.WrongCases.{step_at}
use Rattle.finished_uploads.proofs.all_between.Goals as goal

abbrev steps : List Step
steps = traced ruled board flash_before (upload_calls ++ sent 0x07 [] ∷ [])

all : AllBetween
unfolding computing fed_all
all = record {
  upload = take 13 steps;
  last = step_at steps 13;
  steps_are = refl;
  answers_are = refl;
  uploaded =
      record {
        begun = refl;
        no_reset = (refl, (refl, (refl, (refl, (refl, (refl, (refl, (refl, (refl, (refl, (refl, (refl, (refl, tt)))))))))))));
        in_order = refl;
        image_is = refl;
        ended = refl;
      };
  none_waited = refl;
  count_is = refl;
}

pub returns : goal.returns
returns c = all
