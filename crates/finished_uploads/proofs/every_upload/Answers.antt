-- `finished_uploads::every_upload` meets its contract: by the law of the same name.
use Rattle.finished_uploads.proofs.Stored.{every_upload}
use Rattle.finished_uploads.proofs.every_upload.Goals as goal

pub returns : goal.returns
returns c = every_upload
