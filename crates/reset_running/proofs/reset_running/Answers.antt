-- `reset_running::reset_running` meets its contract: each arm is the rule for what the version counts as.
use Rattle.std.proofs.Common.{sym, ◌∙◌}
use Rattle.rules.specs.Master.{running_reset}
use Rattle.encoder.proofs.EncodeLaws.{encodes_unmade}
use Rattle.reset_running.proofs.ResetLaws.{ruled-number, known, unknown, running}
use Rattle.reset_running.proofs.reset_running.Goals as goal

pub returns-then-not-frame_in_range : goal.returns-then-not-frame_in_range
unfolding running_reset
returns-then-not-frame_in_range c =
    encodes_unmade _ _ c.args.out.now (rw (← c.frame_in_range.ensures, c.if-not-frame_in_range.true))

pub returns-in-Ok : goal.returns-in-Ok
returns-in-Ok c =
    let in_range_holds = sym c.frame_in_range.ensures ∙ c.if-not-frame_in_range.false in
    encodes_unmade _ _ c.args.out.now
    (known c.args.bus _ _ _ _ in_range_holds (ruled-number c.version.ensures c.in-Ok.is))

pub returns-in-Err-ApplicationRunning : goal.returns-in-Err-ApplicationRunning
returns-in-Err-ApplicationRunning c =
    let in_range_holds = sym c.frame_in_range.ensures ∙ c.if-not-frame_in_range.false in
    rw (running c.args.bus _ _ _ _ in_range_holds (ruled-number c.version.ensures (rw c.in-Err-ApplicationRunning.field-0-is at c.in-Err-ApplicationRunning.is)))
    c.write_reset.ensures

pub returns-in-Err-Unknown : goal.returns-in-Err-Unknown
returns-in-Err-Unknown c =
    let in_range_holds = sym c.frame_in_range.ensures ∙ c.if-not-frame_in_range.false in
    encodes_unmade _ _ c.args.out.now
    (unknown c.args.bus _ _ _ _ in_range_holds (ruled-number c.version.ensures (rw c.in-Err-Unknown.field-0-is at c.in-Err-Unknown.is)))
