-- `changed_pages::pages_counted` meets its contract: by `finished_count`.
use Rattle.laws.proofs.StateLaws.{in_range_facts}
use Rattle.changed_pages.proofs.Counts.{finished_count}
use Rattle.changed_pages.proofs.pages_counted.Goals as goal

pub returns : goal.returns
returns c = λ p d image range room fits. finished_count p (in_range_facts p range) d room image fits
