-- `roundtrip::upload_roundtrip` meets its contract: by `Uploads`.
use Rattle.roundtrip.proofs.Uploads.{upload_roundtrip}
use Rattle.roundtrip.proofs.upload_roundtrip.Goals as goal

pub returns : goal.returns
returns c = upload_roundtrip
