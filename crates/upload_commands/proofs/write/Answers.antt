-- `upload_commands::write` meets its contract: its test is `accepted`, and an accepted write is taken by `upload::take`.
use Rattle.std.proofs.Common.{length, take, drop, ◌-◌, true, false, [], ◌≡◌, refl, sym, ap, ◌∙◌, arith, rules}
use Rattle.upload_commands.proofs.Laws.{ready, upload_formed_lem, restarted_formed, accepted_fits}
use Rattle.rules.specs.Commands.{accepted, restarted, written}
use Rattle.rules.specs.State as rules
use Rattle.laws.proofs.BytesLaws.{take_rest}
use Rattle.response.specs.Done.{CommandEffect}
use Rattle.response.proofs.Laws.{few_fit}
use Rattle.commit.specs.Progress.{progress_of}
use Rattle.profile.specs.View.{profile_of}
use Rattle.state.specs.View.{upload_of}
use Rattle.state.specs.Heads.{upload_with}
use Rattle.state.proofs.Laws.{used_many}
use Rattle.rules.specs.Frames.{number_at}
use Rattle.rules.specs.Commit.{taken_all}
use Rattle.upload_commands.proofs.write.Goals as goal

pub reply-requires : goal.reply-requires
reply-requires c = few_fit c.args.p c.args.h _ _ c.args.at 0 c.requires.serving (omega arith)

pub returns-then-not-accepts : goal.returns-then-not-accepts
unfolding written
returns-then-not-accepts c =
    let no : accepted c.args.p.size c.args.h.counts.next (number_at c.args.args.now 0) (length (drop 2 c.args.args.now)) ≡ false =
    rw (take_rest c.args.args.now 2, c.number_at-address.ensures.0) at (sym c.accepts.ensures
    ∙ c.if-not-accepts.true) in
    record { ruled = λ l. rw no (rw c.code.ensures at (c.reply.ensures c.args.waiting.now l c.args.flash.now)); behind = refl }

pub take-taken-requires : goal.take-taken-requires
take-taken-requires c =
    let address = c.number_at-address.result in
    let many = length (take (length c.args.args.now - 2) (drop 2 c.args.args.now)) in
    let yes : accepted c.args.p.size c.args.h.counts.next address many ≡ true =
    sym c.accepts.ensures ∙ c.if-not-accepts.false in
    let formed = upload_formed_lem c.args.p c.args.h _ _ c.args.at c.requires.serving c.args.waiting.now in
    let u = upload_of (upload_with c.args.h.counts c.args.waiting.now) in record {
      ready =
          ready c.args.p c.args.h _ _ c.args.at c.requires.serving (upload_with c.restart.result c.args.waiting.now)
          (rw (c.restart.ensures c.args.waiting.now) (restarted_formed (profile_of c.args.p).page c.args.p.size address u formed));
      bytes_bound =
          rw (ap (λ u. u.next) (c.restart.ensures c.args.waiting.now)) (accepted_fits c.args.p.size address many u yes);
      waiting_len = c.requires.waiting_len;
    }

pub reply-requires-2 : goal.reply-requires-2
reply-requires-2 c = few_fit c.args.p c.args.h _ _ c.args.at 0 c.requires.serving (omega arith)

pub returns : goal.returns
unfolding written
returns c =
    let yes : accepted c.args.p.size c.args.h.counts.next (number_at c.args.args.now 0) (length (drop 2 c.args.args.now)) ≡ true =
    rw (take_rest c.args.args.now 2, c.number_at-address.ensures.0) at (sym c.accepts.ensures
    ∙ c.if-not-accepts.false) in
    let g : progress_of (upload_with c.take-taken.result c.take-taken.new.waiting) c.take-taken.new.flash
    ≡ taken_all (profile_of c.args.p) (record
    { upload = restarted (number_at c.args.args.now 0) (upload_of (upload_with c.args.h.counts c.args.waiting.now)); flash = c.args.flash.now }) (drop 2 c.args.args.now) =
    rw (take_rest c.args.args.now 2, c.restart.ensures c.args.waiting.now, c.number_at-address.ensures.0) at c.take-taken.ensures.flash_after in
    let same : c.reply-2.result.head.counts.held ≡ c.take-taken.result.held =
    used_many c.reply-2.result.head.counts.held c.take-taken.result.held [] []
    (ap (λ (x : CommandEffect). x.state.upload.waiting) (c.reply-2.ensures [] [] [])
    ∙ ap (λ (s : rules.State). s.upload.waiting) (c.with_counts.ensures c.args.waiting.now [] [])) in
    record {
      ruled = λ l.
          rw (yes, ← g)
          (rw (c.with_counts.ensures c.args.waiting.now c.take-taken.new.waiting l, c.code-2.ensures) at (c.reply-2.ensures c.take-taken.new.waiting l
          c.take-taken.new.flash));
      behind = rw same c.take-taken.ensures.waiting_unchanged;
    }
