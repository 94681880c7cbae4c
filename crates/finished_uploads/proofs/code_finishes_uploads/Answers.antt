-- `finished_uploads::code_finishes_uploads` meets its contract: by the law of the same name.
use Rattle.finished_uploads.proofs.OfCode.{code_finishes_uploads}
use Rattle.finished_uploads.proofs.code_finishes_uploads.Goals as goal

pub returns : goal.returns
returns c = code_finishes_uploads
