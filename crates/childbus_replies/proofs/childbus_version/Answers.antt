-- `childbus_version` meets its contract: numbers over 255 count as 255 does.
use Rattle.std.proofs.Common.{◌∙◌}
use Rattle.childbus_replies.proofs.ReplyLaws.{version_left, version_unnamed}
use Rattle.childbus_replies.proofs.childbus_version.Goals as goal

pub returns-in_default : goal.returns-in_default
returns-in_default c =
    version_unnamed c.in_default.field-0 (rw c.in_default.is at c.version_number.ensures)
    ∙ version_left c.args.major c.args.minor c.clip.ensures c.clip-2.ensures c.in_default.ensures

pub returns : goal.returns
returns c =
    rw (c.from.ensures, c.from-2.ensures)
    (version_left c.args.major c.args.minor c.clip.ensures c.clip-2.ensures c.in-Ok.ensures)
