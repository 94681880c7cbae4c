-- No version reply of a bootloader is taken for a running application's.
use Rattle.reset_claims.proofs.Known.{bootloader_known}
use Rattle.reset_claims.proofs.bootloader_known.Goals as goal

pub returns : goal.returns
returns c = bootloader_known
