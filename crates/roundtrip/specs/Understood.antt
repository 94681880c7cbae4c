-- What the master asks is what the board does.
use Rattle.std.specs.Prelude.{◌≡◌, List, [], ◌∷◌, ℕ, drop}
use Rattle.rules.specs.declared.kinds.Verdict.{Verdict}
use Rattle.rules.specs.declared.kinds.Verdict.TheVariants as verdicts
use Rattle.rules.specs.declared.requests.Request.{Request}
use Rattle.rules.specs.declared.requests.Request.TheVariants.{Plain, SetAddress, Write, Read, ResetAddress, Reset}
use Rattle.rules.specs.State.{fresh}
use Rattle.rules.specs.Frames.{destination, number_at, command_of, arguments_of, verdict}
use Rattle.rules.specs.Commands.{performed}
use Rattle.rules.specs.Board.{nothing, finished_call, address_reset}
use Rattle.rules.specs.Master.{Instruction, Commands, AddressReset, BoardReset}
use Rattle.roundtrip.specs.Sending.{Sending, Given, bus, frame, call, instruction}

-- what the frame is to the board
abbrev pub verdict_on : Sending → Verdict
verdict_on x = verdict (bus x) x.profile.longest x.state.running x.state.address x.beside (frame x)

-- the frame is this command with these arguments, and the command's own rule is followed
pub record TakenAs (x : Sending) (code : ℕ) (arguments : List ℕ) : Type 0 where
  pub verdict_is : verdict_on x ≡ verdicts.Command
  pub destination_is : destination (bus x) x.beside (frame x) ≡ x.to
  pub command_is : command_of (bus x) (frame x) ≡ code
  pub arguments_are : arguments_of (bus x) (frame x) ≡ arguments
  pub call_is : call x ≡ finished_call (bus x) x.to (performed x.profile x.state code arguments x.flash)

abbrev pub Understood : Sending → Instruction → Type 0
Understood x (Commands code arguments) = TakenAs x code arguments
Understood x AddressReset = (verdict_on x ≡ verdicts.ResetAddress) × (call x ≡ nothing (address_reset x.state) x.flash)
Understood x BoardReset = (verdict_on x ≡ verdicts.Reset) × (call x ≡ nothing fresh x.flash)

-- the arguments, as the command's rule reads them, are the request's
abbrev pub Carried : Request → List ℕ → List ℕ → Type 0
Carried (Plain code) bytes arguments = arguments ≡ []
Carried (SetAddress address hardware) bytes arguments = arguments ≡ address ∷ hardware ∷ []
Carried (Write address) bytes arguments = (number_at arguments 0 ≡ address) × (drop 2 arguments ≡ bytes)
Carried (Read address n) bytes arguments = (number_at arguments 0 ≡ address) × (drop 2 arguments ≡ n ∷ [])
Carried ResetAddress bytes arguments = Unit
Carried Reset bytes arguments = Unit

-- every request that the encoder makes is taken by a board that it reaches as that very command with those very arguments
abbrev pub RequestsUnderstood : Type 0
RequestsUnderstood =
    (x : Sending) → Given x → Understood x (instruction x) × Carried x.request x.bytes (arguments_of (bus x) (frame x))
