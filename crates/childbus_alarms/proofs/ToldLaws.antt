-- Each silence of the board has its reason, verdict by verdict, and command by command.
use mathlib.Core.Path.{◌≡◌, refl}
use mathlib.Core.Bool.{Bool, true, false, cond, not}
use mathlib.Core.List.{List}
use Prim.Native.Nat.{ℕ}
use lib.Dec.{eqb}
use lib.ListN.{length, drop, get_or}
use Rattle.rules.specs.declared.kinds.Bus.{Bus}
use Rattle.rules.specs.declared.kinds.Bus.TheVariants.{I2c, Rs485}
use Rattle.rules.specs.declared.kinds.Reason.{Reason}
use Rattle.rules.specs.declared.kinds.Reason.TheVariants.{Running, Short, Long, WrongSum, Foreign, OtherGeneral}
use Rattle.rules.specs.declared.kinds.Verdict.{Verdict}
use Rattle.rules.specs.declared.kinds.Verdict.TheVariants.{Reset, ResetAddress, Ignored, BadTransfer, BadSum, Command}
use Rattle.rules.specs.Profile.{Profile, in_range}
use Rattle.rules.specs.State.{State, well_formed}
use Rattle.rules.specs.Numbers.{ignored_number, refusal, flash_short, buffer_short}
use Rattle.rules.specs.Frames.{destination, verdict, number_at, command_of, arguments_of}
use Rattle.rules.specs.Responses.{Response, Reply, NoReply, Acted}
use Rattle.rules.specs.Commands.{executed, set_address, accepted, written, finished, readable, shown}
use Rattle.rules.specs.Board.{replied, finished_call, handled, received}
use Rattle.laws.proofs.TestLaws.{by_test}
use Rattle.laws.proofs.CommandLaws.{executed_cases}
use Rattle.childbus_alarms.specs.Silence.{silent, command_silence, silence_of}

-- a number, and the reason that is told if it is a silence
abbrev pub Told : ℕ → ℕ → Type 0
Told reason n = not (eqb (cond (silent n) reason 0) 0) ≡ silent n

ignored_told : (reason : Reason) (command : ℕ) → Told (silence_of (Ignored reason) command) (ignored_number reason)
ignored_told Running command = refl
ignored_told Short command = refl
ignored_told Long command = refl
ignored_told WrongSum command = refl
ignored_told (Foreign I2c) command = refl
ignored_told (Foreign Rs485) command = refl
ignored_told OtherGeneral command = refl

-- a reason that is not 0, whether a reply is sent or not
replied_told : (reason : ℕ) → eqb reason 0 ≡ false → (bus : Bus) (a : ℕ) (r : Response) (s : State) (d : List ℕ)
    → Told reason (replied bus a r s d).number
replied_told reason e bus a (Reply status results) s d = refl
replied_told reason e bus a NoReply s d = rw e

-- a refusal is no silence
refusal_told : (reason : ℕ) (p : Profile) (s : State) (n m : ℕ) → Told reason (refusal p s n m)
unfolding refusal
refusal_told reason p s n m = go (not (in_range p)) (flash_short p n) (not (well_formed p s)) (buffer_short p m)
  where
    go : (range flash formed buffer : Bool) → Told reason (cond range 2 (cond flash 3 (cond formed 4 (cond buffer 5 0))))
    go true flash formed buffer = refl
    go false true formed buffer = refl
    go false false true buffer = refl
    go false false false true = refl
    go false false false false = refl

module _ (p : Profile) (s : State) (a : ℕ) (f d : List ℕ) where
  -- set address and start have a reason, and every other command replies
  command_told : (to code : ℕ) (args : List ℕ) → Told (command_silence code) (finished_call p.bus to (executed p s code args d)).number
  unfolding written finished shown
  command_told to code args =
      executed_cases p s code args d (λ (act : Acted). Told (command_silence code) (finished_call p.bus to act).number)
      (record {
        unserved = refl;
        wrong_length = refl;
        version = λ e h. refl;
        address = λ e h. rw e (replied_told 7 refl p.bus to (set_address p s args d).response _ _);
        info = λ e h. refl;
        serial = λ e h. by_test (eqb (length p.serial) 0) (λ e. rw e) (λ e. rw e);
        start = λ e h. rw e;
        write = λ e h.
            by_test (accepted p.size s.upload.next (number_at args 0) (length (drop 2 args))) (λ e. rw e) (λ e. rw e);
        finalize = λ e h. refl;
        read = λ e h. by_test (readable p (number_at args 0) (get_or args 2 0)) (λ e. rw e) (λ e. rw e);
        revision = λ e h. refl;
        longest = λ e h. refl;
      })

  handled_told : (v : Verdict) → Told (silence_of v (command_of p.bus f)) (handled p s a f d v).number
  unfolding handled
  handled_told Reset = refl
  handled_told ResetAddress = refl
  handled_told (Ignored reason) = ignored_told reason (command_of p.bus f)
  handled_told BadTransfer = refl
  handled_told BadSum = refl
  handled_told Command = command_told (destination p.bus a f) (command_of p.bus f) (arguments_of p.bus f)

  pub received_told : (n : ℕ)
      → Told (silence_of (verdict p.bus p.longest s.running s.address a f) (command_of p.bus f)) (received p s a f d n).number
  unfolding received
  received_told n =
      by_test (eqb (refusal p s (length d) n) 0) (λ e. rw e (handled_told _)) (λ e. rw e (refusal_told _ p s (length d) n))
