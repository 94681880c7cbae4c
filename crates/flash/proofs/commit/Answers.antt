-- `flash::commit` meets its contract: bytes that stand there already leave flash as it is, by `overlay-same`; else both parts are laid.
use Rattle.std.proofs.Common.{sym, ap, ◌∙◌, not, ◌++◌, arith, length, length-append}
use Rattle.laws.proofs.BytesLaws.{overlay-same, overlay-overlay}
use Rattle.flash.proofs.commit.Goals as goal

pub returns-then-stands : goal.returns-then-stands
returns-then-stands c =
    let stands = sym c.stands.ensures ∙ c.if-stands.true in
    record {
      changed = sym (ap not stands);
      laid = sym (overlay-same c.args.flash.now c.args.at (c.args.first.now ++ c.args.second.now) (omega (arith, length-append c.args.first.now c.args.second.now)) stands);
    }

pub returns : goal.returns
returns c =
    record {
      changed = sym (ap not (sym c.stands.ensures ∙ c.if-stands.false));
      laid = rw (c.store-2.ensures, c.store.ensures) (overlay-overlay c.args.flash.now c.args.at c.args.first.now c.args.second.now (omega arith));
    }
