-- `text::read::bytes` meets its contract: `-` is no pair, and leaves the output as it is.
use Rattle.std.proofs.Common.{◌≡◌, true, sym, ◌∙◌}
use Rattle.text.specs.Read.{is_dash}
use Rattle.text.proofs.ReadLaws.{is_dash-hex_bytes}
use Rattle.text.proofs.read.bytes.Goals as goal

pub returns-then-is_dash : goal.returns-then-is_dash
returns-then-is_dash c =
    let dash : is_dash c.args.s.now ≡ true = sym c.is_dash.ensures ∙ c.if-is_dash.true in
    record { count = rw dash; laid = rw (dash, is_dash-hex_bytes c.args.s.now dash) }
