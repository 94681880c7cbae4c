-- `updates::set_address` meets its contract: its tests are the definition's, and the address is refused or taken over.
use Rattle.std.proofs.Common.{sym, ◌∙◌}
use Rattle.laws.proofs.CommandLaws.{set_address_outcomes}
use Rattle.state.specs.View.{view}
use Rattle.state.specs.Heads.{state_with}
use Rattle.profile.specs.View.{profile_of}
use Rattle.updates.proofs.set_address.Goals as goal

pub returns-then-not-type_matches : goal.returns-then-not-type_matches
returns-then-not-type_matches c =
    λ w l d.
    rw ((set_address_outcomes _ _ _ d).foreign
    (sym c.type_matches.ensures ∙ c.if-not-type_matches.true))

pub returns-then-reserved : goal.returns-then-reserved
returns-then-reserved c =
    λ w l d.
    rw (
    (set_address_outcomes (profile_of c.args.p) (view (state_with c.args.h w l)) c.args.args.now d).refused
    (sym c.type_matches.ensures ∙ c.if-not-type_matches.false)
    (sym (rw c.address_taken-own.ensures at c.reserved.ensures) ∙ c.if-reserved.true)
    )
    (rw c.code.ensures at (c.reply.ensures w l d))

pub returns : goal.returns
returns c =
    λ w l d.
    rw (
      (set_address_outcomes (profile_of c.args.p) (view (state_with c.args.h w l)) c.args.args.now d).taken
          (sym c.type_matches.ensures ∙ c.if-not-type_matches.false)
          (sym (rw c.address_taken-own.ensures at c.reserved.ensures) ∙ c.if-reserved.false),
      ← c.address_taken-own.ensures,
    )
    (rw (c.with_address.ensures w l, c.code-2.ensures) at (c.reply-2.ensures w l d))
