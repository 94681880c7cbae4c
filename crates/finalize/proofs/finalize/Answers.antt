-- `finalize::finalize` meets its contract: nothing waiting leaves all as it is, else the waiting bytes lie in one page and are committed
-- there. By `finalized_none`, `finalized_some` and `committed-counted`.
use Rattle.std.proofs.Common.{refl, sym, ◌∙◌, append-nil, arith, take, length-take}
use Rattle.laws.proofs.UploadLaws.{sub-mod}
use Rattle.state.specs.Heads.{upload_with}
use Rattle.profile.specs.View.{profile_of}
use Rattle.commit.proofs.Laws.{ready_bounds, fitting, committed-counted, finalized_none, finalized_some, finalized_formed}
use Rattle.finalize.proofs.finalize.Goals as goal

pub returns-then-held-eq0 : goal.returns-then-held-eq0
returns-then-held-eq0 c =
    let u = upload_with c.args.u c.args.waiting.now in record {
      flash_after = sym (finalized_none (profile_of c.args.p) u c.args.flash.now c.if-held-eq0.true);
      formed = record { formed = c.requires.ready.formed; next_is = refl };
    }

pub overflow_sub-at : goal.overflow_sub-at
overflow_sub-at c =
    let b = ready_bounds c.requires.ready in
    omega arith

pub overflow_add-at : goal.overflow_add-at
overflow_add-at c =
    let b = ready_bounds c.requires.ready in
    omega arith

pub slice_bounds-commit_counted-end : goal.slice_bounds-commit_counted-end
slice_bounds-commit_counted-end c =
    let b = ready_bounds c.requires.ready in
    simp length-take (omega arith)

pub commit_counted-count-requires : goal.commit_counted-count-requires
commit_counted-count-requires c =
    let b = ready_bounds c.requires.ready in
    simp length-take (omega arith)

pub returns : goal.returns
returns c =
    let u = upload_with c.args.u c.args.waiting.now in
    let b = ready_bounds c.requires.ready in
    let place = sub-mod (profile_of c.args.p).page u.next u.held b.profile.page_least b.held.held_most in
    let lies = fitting c.args.p u c.args.flash.now b.profile c.requires.ready.flash_holds b.held.next_most (omega arith) (omega arith) in
    let settled = rw (append-nil (take u.held u.waiting)) at c.commit_counted-count.ensures in
    let done = sym (finalized_some (profile_of c.args.p) u c.args.flash.now c.if-held-eq0.false ∙ committed-counted c.args.p u lies (omega arith) settled) in
    record { flash_after = done; formed = finalized_formed c.args.flash.now c.requires.ready _ done }
