-- `demands::outside_kept` meets its contract: a commit writes within the working flash, a read writes nothing.
use Rattle.laws.proofs.UploadLaws.{outside_refl}
use Rattle.laws.proofs.BoardLaws.{received_outside, read_out_flash}
use Rattle.demands.proofs.outside_kept.Goals as goal

pub returns : goal.returns
returns c = λ p s a f d n. (received_outside p s d a f n, rw (read_out_flash p s a d n) (outside_refl p d))
