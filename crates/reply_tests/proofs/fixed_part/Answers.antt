-- `reply_tests::fixed_part` meets its contract: each arm is the row of the definition for its code.
use Rattle.std.proofs.Common.{ne_eqb}
use Rattle.rules.specs.Master.{fixed_part}
use Rattle.reply_tests.proofs.fixed_part.Goals as goal

pub returns-in-0 : goal.returns-in-0
unfolding fixed_part
returns-in-0 c = rw c.in-0.is

pub returns-in-3 : goal.returns-in-3
unfolding fixed_part
returns-in-3 c = rw c.in-3.is

pub returns-in-7 : goal.returns-in-7
unfolding fixed_part
returns-in-7 c = rw c.in-7.is

pub returns-in-8 : goal.returns-in-8
unfolding fixed_part
returns-in-8 c = rw c.in-8.is

pub returns-in-9 : goal.returns-in-9
unfolding fixed_part
returns-in-9 c = rw c.in-9.is

pub returns-in-12 : goal.returns-in-12
unfolding fixed_part
returns-in-12 c = rw c.in-12.is

pub returns-in_default : goal.returns-in_default
unfolding fixed_part
returns-in_default c =
    let rest = c.in_default.in_default-own.rest in
    rw (
      ne_eqb _ _ rest.0.0.0.0.0.1,
      ne_eqb _ _ rest.0.0.0.0.1,
      ne_eqb _ _ rest.0.0.0.1,
      ne_eqb _ _ rest.0.0.1,
      ne_eqb _ _ rest.0.1,
      ne_eqb _ _ rest.1,
    )
