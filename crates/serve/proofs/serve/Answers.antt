-- `serve::serve` meets its contract: the frame is taken apart as the rules do, executed and answered.
use Rattle.std.proofs.Common.{refl, ap, List, [], ℕ, ◌+◌, arith}
use Rattle.rules.specs.Frames.{header_length, arguments_of, command_of}
use Rattle.rules.specs.Responses.{Acted}
use Rattle.rules.specs.Commands.{executed}
use Rattle.state.specs.View.{view}
use Rattle.state.specs.Heads.{state_with}
use Rattle.profile.specs.View.{profile_of}
use Rattle.response.specs.Done as buffered
use Rattle.answer.proofs.AnsweredLaws.{responded}
use Rattle.serve.proofs.ServeLaws.{fits_served}
use Rattle.serve.proofs.serve.Goals as goal

pub respond-requires : goal.respond-requires
respond-requires c =
    let s = view (state_with c.args.h c.args.waiting.now []) in
    fits_served (profile_of c.args.p) s _ _ c.args.flash.now _ _ _ (c.requires.by_index _ _) refl
    c.execute-done.auto.out _ (ap (λ (x : buffered.CommandEffect). x.response) (c.execute-done.ensures.ruled []))

pub returns : goal.returns
returns c =
    let acted : List ℕ → Acted =
    λ l.
    executed (profile_of c.args.p) (view (state_with c.args.h c.args.waiting.now l)) (command_of c.args.p.bus c.args.frame.now) (arguments_of c.args.p.bus c.args.frame.now) c.args.flash.now in
    let done =
    rw (c.results_start.ensures, c.arguments-args.ensures, c.command-code.ensures) at c.execute-done.ensures in
    rw (← c.destination.ensures)
    (responded c.args.p.bus _ _ _ _ _ _ _ _ c.args.out.now (header_length c.args.p.bus + 2) acted done
    (λ l. c.respond.ensures (acted l) _ l _ c.args.out.now (omega arith) (done.ruled l)))
