-- What a well-framed request gets from the board of the rules: its verdict is a command, so its answer is the command's own.
use mathlib.Core.Path.{◌≡◌, refl, ◌∙◌}
use mathlib.Core.Bool.{Bool, true, false, not, ◌&&◌, false≢true}
use mathlib.Core.List.{List, [], ◌∷◌}
use Prim.Native.Nat.{ℕ, ◌+◌, ◌-◌, ◌≤◌}
use native.Mathlib.Omega.{arith}
use lib.Dec.{leb}
use lib.ListN.{length, take, drop, get_or, length-drop}
use lib.Seq.{length-take-le}
use borrow.Author.Tests.{not-true, le-leb}
use Rattle.rules.specs.declared.kinds.Bus.{Bus}
use Rattle.rules.specs.declared.kinds.Bus.TheVariants.{I2c, Rs485}
use Rattle.rules.specs.declared.kinds.Verdict.{Verdict}
use Rattle.rules.specs.declared.kinds.Verdict.TheVariants.{Reset, ResetAddress, Ignored, BadTransfer, BadSum, Command}
use Rattle.rules.specs.Profile.{Profile}
use Rattle.rules.specs.State.{State}
use Rattle.rules.specs.Frames.{shortest_request, destination, command_of, arguments_of, number_at, framing, verdict, is_command, is_general}
use Rattle.rules.specs.Frames.{reset_frame}
use Rattle.rules.specs.Responses.{Reply, replying, ok, invalid_arguments}
use Rattle.rules.specs.Commands.{set_address, accepted, written, finished, readable, shown, performed, executed, tabled}
use Rattle.rules.specs.Board.{nothing, finished_call, handled}
use Rattle.laws.proofs.TestLaws.{by_test, &&_true}
use Rattle.laws.proofs.VerdictLaws.{Framed, framing_framed}
use Rattle.demands.specs.Past.{past_of, well_framed}

is_command_true : (v : Verdict) → is_command v ≡ true → v ≡ Command
is_command_true Reset e = absurd (false≢true e)
is_command_true ResetAddress e = absurd (false≢true e)
is_command_true (Ignored reason) e = absurd (false≢true e)
is_command_true BadTransfer e = absurd (false≢true e)
is_command_true BadSum e = absurd (false≢true e)
is_command_true Command e = refl

-- a request is at least two bytes longer than its arguments
length_arguments : (place ending : ℕ) (f : List ℕ) → length (drop place (take (length f - ending) f)) ≡ length f - ending - place
length_arguments place ending f = length-drop place (take (length f - ending) f) ∙ rw (length-take-le (length f - ending) f (omega arith))

arguments_within : (bus : Bus) (f : List ℕ) → shortest_request bus ≤ length f → length (arguments_of bus f) + 2 ≤ length f
arguments_within I2c f h = omega (arith, length_arguments 1 1 f)
arguments_within Rs485 f h = omega (arith, length_arguments 2 2 f)

module _ (p : Profile) (s : State) (a : ℕ) (f : List ℕ) (heard : well_framed p (past_of s) a f ≡ true) where
  stopped : s.running ≡ false
  unfolding well_framed
  stopped =
      not-true s.running (&&_true (not s.running) (is_command (framing p.bus p.longest s.address a f)) heard).0

  framing_command : framing p.bus p.longest s.address a f ≡ Command
  unfolding well_framed
  framing_command =
      is_command_true _ (&&_true (not s.running) (is_command (framing p.bus p.longest s.address a f)) heard).1

  framed : Framed p.bus p.longest s.address a f
  framed = framing_framed p.bus p.longest s.address a f (rw framing_command)

  verdict_command : verdict p.bus p.longest s.running s.address a f ≡ Command
  unfolding verdict
  verdict_command = rw (framed.not_general, stopped, framing_command)

  pub handled_command : (d : List ℕ) → handled p s a f d (verdict p.bus p.longest s.running s.address a f)
      ≡ finished_call p.bus (destination p.bus a f) (executed p s (command_of p.bus f) (arguments_of p.bus f) d)
  unfolding handled
  handled_command d = rw verdict_command

  pub arguments_most : p.longest ≤ 256 → length (arguments_of p.bus f) ≤ 254
  arguments_most h = omega (arith, framed.length_most, arguments_within p.bus f framed.length_least)

-- what the commands of the claim say

module _ (p : Profile) (s : State) (args d : List ℕ) where
  -- a write of at least two argument bytes, in order and in range
  abbrev ordered : Bool
  ordered = leb 2 (length args) && accepted p.size s.upload.next (number_at args 0) (length args - 2)

  pub write-accepted : length args ≤ 254 → ordered ≡ true → (executed p s 0x06 args d).response ≡ Reply ok []
  unfolding executed performed tabled written
  write-accepted most e =
      let parts = &&_true (leb 2 (length args)) (accepted p.size s.upload.next (number_at args 0) (length args - 2)) e in
      rw (parts.0, le-leb (length args) 254 most, length-drop 2 args, parts.1)

  pub write_refused : ordered ≡ false → executed p s 0x06 args d ≡ replying s d invalid_arguments []
  unfolding executed performed tabled written
  write_refused e =
      by_test (leb 2 (length args))
      (λ two.
      by_test (leb (length args) 254) (λ most. rw (two, most, length-drop 2 args, rw two at e)) (λ most. rw (two, most)))
      (λ two. rw two)

  pub version_replying : args ≡ [] → executed p s 0x00 args d ≡ replying s d ok (2 ∷ 2 ∷ [])
  unfolding executed performed tabled
  version_replying e = rw e

  pub address_set : length args ≡ 2 → executed p s 0x01 args d ≡ set_address p s args d
  unfolding executed performed tabled
  address_set two = rw two

  pub read_replying : length args ≡ 3 → readable p (number_at args 0) (get_or args 2 0) ≡ true
      → executed p s 0x08 args d ≡ replying s d ok (take (get_or args 2 0) (drop (p.offset + number_at args 0) d))
  unfolding executed performed tabled shown
  read_replying three e = rw (three, e)

  pub finalize-finished : args ≡ [] → executed p s 0x07 args d ≡ finished p s d
  unfolding executed performed tabled
  finalize-finished e = rw e

-- while running all but the reset is ignored
pub handled_running : (p : Profile) (s : State) (a : ℕ) (f d : List ℕ) → s.running ≡ true
    → is_general p.bus a f (reset_frame p.bus) ≡ false
    → handled p s a f d (verdict p.bus p.longest s.running s.address a f) ≡ nothing s d
unfolding handled verdict
handled_running p s a f d running other = rw (other, running)
