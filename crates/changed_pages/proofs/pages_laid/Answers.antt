-- `changed_pages::pages_laid` meets its contract: by the law of the same name, where the working flash has whole pages.
use Rattle.laws.proofs.StateLaws.{in_range_facts}
use Rattle.changed_pages.proofs.Pages.{pages_laid}
use Rattle.changed_pages.proofs.pages_laid.Goals as goal

pub returns : goal.returns
returns c = λ p d image range room fits. pages_laid p d image (in_range_facts p range).size_paged room fits
