-- `profile::frame_in_range` meets its contract: each test of the code is one of the rule.
use Rattle.std.proofs.Common.{le-leb}
use borrow.Author.Tests.{lt-leb}
use Rattle.profile.proofs.frame_in_range.Goals as goal

pub returns-then-longest-lt32 : goal.returns-then-longest-lt32
returns-then-longest-lt32 c = rw (lt-leb _ _ c.if-longest-lt32.true)

pub returns : goal.returns
returns c = rw (le-leb _ _ c.if-longest-lt32.false)
