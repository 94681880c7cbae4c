-- `dispatch::perform` meets its contract: each arm is the definition's case for that code.
use Rattle.std.proofs.Common.{ne_eqb, length, refl, [], arith}
use Rattle.dispatch.proofs.Laws.{set_address_arguments, write_arguments, read_arguments}
use Rattle.response.proofs.Laws.{few_fit}
use Rattle.laws.proofs.StateLaws.{unrefused_profile, length-used}
use Rattle.rules.specs.Commands.{performed}
use Rattle.dispatch.proofs.perform.Goals as goal

pub version-requires : goal.version-requires
version-requires c = few_fit c.args.p c.args.h _ _ c.args.at 2 c.requires.serving (omega arith)

pub set_address-requires : goal.set_address-requires
set_address-requires c = (
  set_address_arguments c.args.code (length c.args.args.now) c.in-1.is c.requires.args_value,
  omega (arith, few_fit c.args.p c.args.h _ _ c.args.at 0 c.requires.serving (omega arith)),
)

pub hardware_info-requires : goal.hardware_info-requires
hardware_info-requires c = (
  omega (arith, (unrefused_profile (c.requires.serving.unrefused [] [])).size_most),
  few_fit c.args.p c.args.h _ _ c.args.at 5 c.requires.serving (omega arith),
)

pub serial-requires : goal.serial-requires
serial-requires c = (
  omega (arith, (unrefused_profile (c.requires.serving.unrefused [] [])).serial_most, length-used c.args.p.seriallen c.args.p.serial),
  few_fit c.args.p c.args.h _ _ c.args.at 16 c.requires.serving (omega arith),
)

pub write-requires : goal.write-requires
write-requires c =
    record {
      serving = c.requires.serving;
      waiting_len = c.requires.waiting_len;
      in_bounds = write_arguments c.args.code (length c.args.args.now) c.in-6.is c.requires.args_value;
    }

pub read-requires : goal.read-requires
read-requires c =
    record {
      serving = c.requires.serving;
      args_len = read_arguments c.args.code (length c.args.args.now) c.in-8.is c.requires.args_value;
    }

pub revision-requires : goal.revision-requires
revision-requires c = few_fit c.args.p c.args.h _ _ c.args.at 1 c.requires.serving (omega arith)

pub reply_number-requires : goal.reply_number-requires
reply_number-requires c = (
  omega (arith, (unrefused_profile (c.requires.serving.unrefused [] [])).longest_most),
  few_fit c.args.p c.args.h _ _ c.args.at 2 c.requires.serving (omega arith),
)

pub returns-in-0 : goal.returns-in-0
unfolding performed
returns-in-0 c =
    record {
      ruled = λ l. rw c.in-0.is (c.version.ensures c.args.waiting.now l c.args.flash.now);
      behind = refl;
    }

pub returns-in-1 : goal.returns-in-1
unfolding performed
returns-in-1 c =
    record {
      ruled = λ l. rw c.in-1.is (c.set_address.ensures c.args.waiting.now l c.args.flash.now);
      behind = refl;
    }

pub returns-in-3 : goal.returns-in-3
unfolding performed
returns-in-3 c =
    record {
      ruled = λ l. rw c.in-3.is (c.hardware_info.ensures c.args.waiting.now l c.args.flash.now);
      behind = refl;
    }

pub returns-in-4 : goal.returns-in-4
unfolding performed
returns-in-4 c =
    record {
      ruled = λ l. rw c.in-4.is (c.serial.ensures c.args.waiting.now l c.args.flash.now);
      behind = refl;
    }

pub returns-in-5 : goal.returns-in-5
unfolding performed
returns-in-5 c =
    record {
      ruled = λ l. rw c.in-5.is (c.start.ensures c.args.waiting.now l c.args.flash.now c.args.out.now c.args.at);
      behind = refl;
    }

pub returns-in-6 : goal.returns-in-6
unfolding performed
returns-in-6 c =
    let done = c.write.ensures in
    record { ruled = λ l. rw c.in-6.is (done.ruled l); behind = done.behind }

pub returns-in-7 : goal.returns-in-7
unfolding performed
returns-in-7 c =
    record { ruled = λ l. rw c.in-7.is (c.finalize.ensures l); behind = refl }

pub returns-in-8 : goal.returns-in-8
unfolding performed
returns-in-8 c =
    record { ruled = λ l. rw c.in-8.is (c.read.ensures c.args.waiting.now l); behind = refl }

pub returns-in-9 : goal.returns-in-9
unfolding performed
returns-in-9 c =
    record {
      ruled = λ l. rw c.in-9.is (c.revision.ensures c.args.waiting.now l c.args.flash.now);
      behind = refl;
    }

pub returns-in_default : goal.returns-in_default
unfolding performed
returns-in_default c =
    let rest = c.in_default.in_default-own.rest in
    record {
      ruled = λ l.
          rw (
            ne_eqb _ _ rest.0.0.0.0.0.0.0.0.1,
            ne_eqb _ _ rest.0.0.0.0.0.0.0.1,
            ne_eqb _ _ rest.0.0.0.0.0.0.1,
            ne_eqb _ _ rest.0.0.0.0.0.1,
            ne_eqb _ _ rest.0.0.0.0.1,
            ne_eqb _ _ rest.0.0.0.1,
            ne_eqb _ _ rest.0.0.1,
            ne_eqb _ _ rest.0.1,
            ne_eqb _ _ rest.1,
          )
          (c.reply_number.ensures c.args.waiting.now l c.args.flash.now);
      behind = refl;
    }
