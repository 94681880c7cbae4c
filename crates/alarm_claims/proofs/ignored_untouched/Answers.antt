-- `alarm_claims::ignored_untouched` meets its contract, by the law of the board calls.
use Rattle.laws.proofs.BoardLaws as laws
use Rattle.alarm_claims.proofs.ignored_untouched.Goals as goal

pub returns : goal.returns
returns c = λ p s a f d v e. (laws.ignored-silent p s a f d v e, laws.ignored_untouched p s a f d v e)
