-- A reply closed around the results of a command is the rules' reply, whatever stood in the buffer before.
use mathlib.Core.Path.{◌≡◌, refl, sym, ap, ◌∙◌}
use mathlib.Core.List.{List, [], ◌∷◌, ◌++◌, append_assoc}
use Prim.Native.Nat.{ℕ, ◌+◌, ◌-◌, ◌≤◌}
use native.Mathlib.Omega.{arith}
use Rattle.std.specs.Prelude.{Option, Some, None}
use lib.ListN.{length, take, drop, length-append, length-take}
use lib.Seq.{take-append_seam, drop_at, drop-append-add, drop-drop, length-take-le}
use Rattle.rules.specs.declared.kinds.Bus.{Bus}
use Rattle.rules.specs.Bytes.{overlay}
use Rattle.rules.specs.State as rules
use Rattle.rules.specs.Numbers.{laid}
use Rattle.rules.specs.Frames.{header_length, shortest_reply, reply}
use Rattle.rules.specs.Responses as responses
use Rattle.rules.specs.Responses.{Acted, Reply, NoReply}
use Rattle.rules.specs.Board.{finished_call, with_reply, nothing}
use Rattle.laws.proofs.CommandLaws.{length-reply}
use Rattle.laws.proofs.OverlayLaws.{take-overlay, drop-overlay}
use Rattle.laws.proofs.LaidLaws.{take-laid}
use Rattle.state.specs.View.{view}
use Rattle.state.specs.Heads.{state_with}
use Rattle.response.specs.declared.Response.{Response}
use Rattle.response.specs.declared.Done.{Done}
use Rattle.response.specs.Done as buffered
use Rattle.frame.specs.Reply.{Closing, results_at}
use Rattle.answer.specs.Answered.{CallEffect, expected_effect}

-- the buffer of a closed reply
closed-laid : (bus : Bus) (to status : ℕ) (results o out1 out2 : List ℕ) → length results + shortest_reply bus ≤ length o
    → out1 ≡ overlay o (header_length bus + 2) results → out2 ≡ laid (reply bus to status (results_at bus (length results) out1)) out1
    → out2 ≡ laid (reply bus to status results) o
closed-laid bus to status results o out1 out2 room e f =
    let there : results_at bus (length results) out1 ≡ results = rw e (take-overlay o (header_length bus + 2) results (omega arith)) in
    let whole = reply bus to status results in
    let behind : drop (length whole) out1 ≡ drop (length whole) o =
    rw e (drop-overlay o (header_length bus + 2) results (omega arith) (length whole) (omega (arith, length-reply bus to status results))) in
    f ∙ rw (there, behind)

-- what is left by a response of a status with results
pub with_reply-ruled : (bus : Bus) (to n : ℕ) (said : Response) (done : Done) (s : rules.State) (w l d o out1 out2 : List ℕ) (a : Acted)
    → done.response ≡ Some said → length o ≡ length out1
    → buffered.command_effect done w l d out1 ≡ buffered.ruled_command a o (header_length bus + 2)
    → said.count + shortest_reply bus ≤ length out1 → Closing bus to said.status said.count out1 out2 n
    → s ≡ with_reply bus (view (state_with done.head w l)) (take n out2)
    → ◌≡◌ {A = CallEffect} (record { number = 0; made = n; state = s; flash = d; out = out2 }) (expected_effect (finished_call bus to a) o)
with_reply-ruled bus to n said done s w l d o out1 out2 a is long acted room closing kept = go a.response refl
  where
    go : (r : responses.Response) → a.response ≡ r
        → ◌≡◌ {A = CallEffect} (record { number = 0; made = n; state = s; flash = d; out = out2 })
        (expected_effect (finished_call bus to a) o)
    go NoReply e =
        let same : Some said ≡ None =
        sym is ∙ ap (λ (x : buffered.CommandEffect). x.response) acted ∙ ap buffered.counted e in
        absurd (let z : ◌≡◌ {A = ℕ} 0 1 = cc in omega arith)
    go (Reply st results) e =
        let same : Some said ≡ Some (record { status = st; count = length results }) =
        sym is ∙ ap (λ (x : buffered.CommandEffect). x.response) acted ∙ ap buffered.counted e in
        let status_is : said.status ≡ st = cc in
        let count_is : said.count ≡ length results = cc in
        let whole = reply bus to st results in
        let out1-is : out1 ≡ overlay o (header_length bus + 2) results =
        ap (λ (x : buffered.CommandEffect). x.out) acted
        ∙ ap (λ (x : responses.Response). buffered.results_in x o (header_length bus + 2)) e in
        let out2-is : out2 ≡ laid whole o =
        closed-laid bus to st results o out1 out2 (omega arith) out1-is (rw (status_is, count_is) at closing.bytes_are) in
        let n-is : n ≡ length whole = closing.length_is ∙ omega (arith, length-reply bus to st results) in
        let kept-is : s ≡ with_reply bus a.state whole =
        kept ∙ rw (out2-is, take-laid whole o n (sym n-is), ap (λ (x : buffered.CommandEffect). x.state) acted) in
        rw (e, n-is, kept-is, out2-is, ap (λ (x : buffered.CommandEffect). x.flash) acted)

-- and without a reply
pub no_reply-ruled : (bus : Bus) (to : ℕ) (done : Done) (s : rules.State) (w l d o out1 : List ℕ) (a : Acted)
    → done.response ≡ None → buffered.command_effect done w l d out1 ≡ buffered.ruled_command a o (header_length bus + 2)
    → s ≡ with_reply bus (view (state_with done.head w l)) []
    → ◌≡◌ {A = CallEffect} (record { number = 1; made = 0; state = s; flash = d; out = out1 }) (expected_effect (finished_call bus to a) o)
no_reply-ruled bus to done s w l d o out1 a said acted kept = go a.response refl
  where
    go : (r : responses.Response) → a.response ≡ r
        → ◌≡◌ {A = CallEffect} (record { number = 1; made = 0; state = s; flash = d; out = out1 })
        (expected_effect (finished_call bus to a) o)
    go (Reply st results) e =
        let same : ◌≡◌ {A = Option Response} None (Some (record { status = st; count = length results })) =
        sym said ∙ ap (λ (x : buffered.CommandEffect). x.response) acted ∙ ap buffered.counted e in
        absurd (let z : ◌≡◌ {A = ℕ} 0 1 = cc in omega arith)
    go NoReply e =
        let out_is : out1 ≡ o =
        ap (λ (x : buffered.CommandEffect). x.out) acted
        ∙ ap (λ (x : responses.Response). buffered.results_in x o (header_length bus + 2)) e in
        rw (e, kept, out_is, ap (λ (x : buffered.CommandEffect). x.state) acted, ap (λ (x : buffered.CommandEffect). x.flash) acted)
