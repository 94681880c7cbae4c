-- `formed::well_formed` meets its contract: the upload by `upload_formed`, the last reply by its length.
use Rattle.std.proofs.Common.{◌<◌, length, le-leb, List, ℕ}
use Rattle.rules.specs.State.{well_formed}
use Rattle.laws.proofs.StateLaws.{in_range_facts, length-used}
use Rattle.rules.specs.State.{used}
use Rattle.profile.specs.View.{profile_of}
use Rattle.profile.proofs.Laws.{answered_false, answered_true}
use Rattle.formed.proofs.Laws.{reply_formed_long}
use Rattle.formed.proofs.well_formed.Goals as goal

pub upload_formed-requires : goal.upload_formed-requires
upload_formed-requires c = (in_range_facts (profile_of c.args.p) c.requires).page_least

pub returns-then-not-upload_formed : goal.returns-then-not-upload_formed
unfolding well_formed
returns-then-not-upload_formed c = λ w l. rw (answered_false (c.upload_formed.ensures w) c.if-not-upload_formed.true)

pub returns-then-p-len : goal.returns-then-p-len
unfolding well_formed
returns-then-p-len c =
    let long : (l : List ℕ) → c.args.p.longest < length (used c.args.h.len l) =
    λ l. rw (length-used c.args.h.len l) c.if-p-len.true in
    λ w l.
    rw (
      answered_true (c.upload_formed.ensures w) c.if-not-upload_formed.false,
      reply_formed_long c.args.p.bus c.args.p.longest (used c.args.h.len l) (long l),
    )

pub returns-in-I2c : goal.returns-in-I2c
unfolding well_formed
returns-in-I2c c =
    λ w l.
    rw (
      answered_true (c.upload_formed.ensures w) c.if-not-upload_formed.false,
      c.in-I2c.is,
      length-used c.args.h.len l,
      le-leb _ _ c.if-p-len.false,
    )

pub returns-in-Rs485 : goal.returns-in-Rs485
unfolding well_formed
returns-in-Rs485 c =
    λ w l.
    rw (
      answered_true (c.upload_formed.ensures w) c.if-not-upload_formed.false,
      c.in-Rs485.is,
      length-used c.args.h.len l,
      le-leb _ _ c.if-p-len.false,
    )
