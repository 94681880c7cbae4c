-- `reset_running::write_reset` meets its contract: the length that it tests is that of the bytes that it writes.
use Rattle.std.proofs.Common.{lt-ltb, le-ltb}
use Rattle.rules.specs.Frames.{reset_frame}
use Rattle.general_calls.specs.declared.General.TheVariants.{Reset}
use Rattle.general_calls.proofs.Laws.{length_general}
use Rattle.encoder.proofs.EncodeLaws.{encodes_unmade, encodes_made}
use Rattle.reset_running.specs.Resets.{reset_into}
use Rattle.reset_running.proofs.write_reset.Goals as goal

pub returns-then-out-general_length : goal.returns-then-out-general_length
unfolding reset_into
returns-then-out-general_length c =
    encodes_unmade _ _ c.args.out.now
    (rw (length_general c.args.bus Reset, ← c.general_length.ensures, lt-ltb _ _ c.if-out-general_length.true))

pub write_general-requires : goal.write_general-requires
write_general-requires c = rw (← c.general_length.ensures) c.if-out-general_length.false

pub returns : goal.returns
unfolding reset_into
returns c =
    encodes_made (reset_frame c.args.bus) _ _ _ _
    (record { length_is = c.write_general.ensures.0; output_is = c.write_general.ensures.1 })
    (rw (length_general c.args.bus Reset, ← c.general_length.ensures, le-ltb _ _ c.if-out-general_length.false))
