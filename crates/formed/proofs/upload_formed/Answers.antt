-- `formed::upload_formed` meets its contract: by `upload_formed_held` the rule is a test on the numbers of the upload, and each test of the
-- code is one of those.
use Rattle.std.proofs.Common.{arith, le-leb}
use native.Mathlib.Nat.{mod-le}
use borrow.Author.Tests.{lt-leb}
use Rattle.state.specs.Heads.{upload_with}
use Rattle.state.proofs.Laws.{upload_formed_held}
use Rattle.formed.proofs.upload_formed.Goals as goal

pub returns-then-size-next : goal.returns-then-size-next
returns-then-size-next c = λ w. rw (upload_formed_held c.args.page c.args.size (upload_with c.args.u w), lt-leb _ _ c.if-size-next.true)

pub returns-then-next-page : goal.returns-then-next-page
returns-then-next-page c =
    λ w.
    rw (
      upload_formed_held c.args.page c.args.size (upload_with c.args.u w),
      le-leb _ _ c.if-size-next.false,
      lt-leb _ _ c.if-next-page.true,
    )

pub overflow_sub-result : goal.overflow_sub-result
overflow_sub-result c = omega (arith, mod-le c.args.u.next c.args.page)

pub returns : goal.returns
returns c =
    λ w.
    rw (
      upload_formed_held c.args.page c.args.size (upload_with c.args.u w),
      le-leb _ _ c.if-size-next.false,
      le-leb _ _ c.if-next-page.false,
    )
