-- `encoder::encode::encode` meets its contract: each return follows the definition past the tests that were passed.
use Rattle.std.proofs.Common.{sym, ◌∙◌, lt-ltb, le-ltb}
use Rattle.rules.specs.Master.{instruction_of, encoded}
use Rattle.laws.proofs.RequestLaws.{argument_wrong_right}
use Rattle.request_bytes.proofs.LengthLaws.{length-request_bytes}
use Rattle.encoder.proofs.EncodeLaws.{longest_least, longest_most, command_fits, numbers_fit, encodes_unmade, encodes_made}
use Rattle.encoder.proofs.encode.encode.Goals as goal

pub returns-then-not-frame_in_range : goal.returns-then-not-frame_in_range
unfolding encoded
returns-then-not-frame_in_range c =
    encodes_unmade _ _ c.args.out.now (rw (← c.frame_in_range.ensures, c.if-not-frame_in_range.true))

pub argument_wrong-requires : goal.argument_wrong-requires
argument_wrong-requires c =
    let in_range_holds = sym c.frame_in_range.ensures ∙ c.if-not-frame_in_range.false in
    longest_least _ in_range_holds

pub returns-then-argument_wrong : goal.returns-then-argument_wrong
unfolding encoded
returns-then-argument_wrong c =
    encodes_unmade _ _ c.args.out.now
    (rw (← c.frame_in_range.ensures, c.if-not-frame_in_range.false, ← c.argument_wrong.ensures, c.if-argument_wrong.true))

pub returns-then-out-request_length : goal.returns-then-out-request_length
unfolding encoded
returns-then-out-request_length c =
    encodes_unmade _ _ c.args.out.now
    (rw (
      ← c.frame_in_range.ensures,
      c.if-not-frame_in_range.false,
      ← c.argument_wrong.ensures,
      c.if-argument_wrong.false,
      length-request_bytes c.args.bus c.args.request c.args.destination c.args.bytes.now,
      ← c.request_length.ensures,
      lt-ltb _ _ c.if-out-request_length.true,
    ))

pub write_request-requires : goal.write_request-requires
write_request-requires c =
    let in_range_holds = sym c.frame_in_range.ensures ∙ c.if-not-frame_in_range.false in
    let passed =
    argument_wrong_right c.args.bus c.args.longest c.args.request c.args.destination c.args.bytes.now
    (sym c.argument_wrong.ensures ∙ c.if-argument_wrong.false) in (
      command_fits c.args.bus c.args.longest c.args.destination (instruction_of c.args.request c.args.bytes.now) passed.allowed,
      numbers_fit c.args.bus c.args.longest c.args.request (longest_most _ in_range_holds) passed.numbers_right,
      rw (← c.request_length.ensures) c.if-out-request_length.false,
    )

pub returns : goal.returns
unfolding encoded
returns c =
    encodes_made _ _ _ _ _ c.write_request.ensures
    (rw (
      ← c.frame_in_range.ensures,
      c.if-not-frame_in_range.false,
      ← c.argument_wrong.ensures,
      c.if-argument_wrong.false,
      length-request_bytes c.args.bus c.args.request c.args.destination c.args.bytes.now,
      ← c.request_length.ensures,
      le-ltb _ _ c.if-out-request_length.false,
    ))
