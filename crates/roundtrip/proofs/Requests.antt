-- Every request is understood. A command's frame is well framed by its shape (`FrameLaws`) and by the encoder's own tests (`Made`), so the
-- board executes it (`BoardLaws`), and the encoder asks the same table of argument lengths. A general call is its exact form.
use mathlib.Core.Path.{◌≡◌, refl, ◌∙◌}
use mathlib.Core.Bool.{Bool, true, false, false≢true, ◌||◌}
use mathlib.Core.List.{List, [], ◌∷◌, ◌++◌}
use Prim.Native.Nat.{ℕ}
use native.Mathlib.Omega.{arith}
use native.Mathlib.Nat.{div-add-mod'}
use lib.Dec.{ltb}
use lib.ListN.{length, get_or}
use Rattle.rules.specs.declared.kinds.Bus.{Bus}
use Rattle.rules.specs.declared.kinds.Bus.TheVariants.{I2c, Rs485}
use Rattle.rules.specs.declared.kinds.Address.{Address}
use Rattle.rules.specs.declared.kinds.Verdict.TheVariants as verdicts
use Rattle.rules.specs.declared.requests.Request.{Request}
use Rattle.rules.specs.declared.requests.Request.TheVariants.{Plain, SetAddress, Write, Read, ResetAddress, Reset}
use Rattle.rules.specs.Profile.{Profile}
use Rattle.rules.specs.State.{State, fresh}
use Rattle.rules.specs.Bytes.{same}
use Rattle.rules.specs.CheckSums.{bit, byte, run, sum, sealed}
use Rattle.rules.specs.Numbers.{refusal}
use Rattle.rules.specs.Frames.{two_bytes, request, reset_address_frame, reset_frame, destination, addressed, verdict, command_of}
use Rattle.rules.specs.Frames.{arguments_of}
use Rattle.rules.specs.Commands.{tabled, served, length_allowed, reserved, performed, executed}
use Rattle.rules.specs.Board.{nothing, address_reset, handled}
use Rattle.rules.specs.Master.{Instruction, Commands, AddressReset, BoardReset, instruction_of, instruction_bytes, request_bytes}
use Rattle.rules.specs.Master.{address_over, numbers_wrong}
use Rattle.laws.proofs.BoardLaws.{received-handled}
use Rattle.laws.proofs.FrameLaws.{arguments_of-request, command_of-request, destination-request, verdict-request}
use Rattle.roundtrip.specs.Sending.{Sending, Given, Beside, AddressedBy, bus, encoding, frame, call, instruction, target}
use Rattle.roundtrip.specs.Understood.{verdict_on, TakenAs, Understood, Carried, RequestsUnderstood}
use Rattle.laws.proofs.TestLaws.{||_false}
use Rattle.laws.proofs.RequestLaws.{Allowed, AllowedBy}
use Rattle.roundtrip.proofs.Made.{encoded-made}

-- a new address that a whole set address carries is one of the bus, and none of the reserved
abbrev pub NewAddress : Bus → Instruction → Type 0
NewAddress b (Commands code arguments) =
    code ≡ 0x01 → length_allowed 0x01 (length arguments) ≡ true
    → (address_over b (get_or arguments 0 0) ≡ false) × (reserved b (get_or arguments 0 0) ≡ false)
NewAddress b AddressReset = Unit
NewAddress b BoardReset = Unit

new_address_lem : (b : Bus) (M : ℕ) (r : Request) (bytes : List ℕ) → numbers_wrong b M r ≡ false → NewAddress b (instruction_of r bytes)
unfolding tabled
new_address_lem b M (Plain code) bytes e = λ is allowed. absurd (false≢true allowed)
new_address_lem b M (SetAddress address hardware) bytes e = λ is allowed.
    let over = ||_false (address_over b address) (reserved b address || ltb 255 hardware) e in
    (over.0, (||_false (reserved b address) (ltb 255 hardware) over.1).0)
new_address_lem b M (Write address) bytes e = λ is allowed. absurd (omega arith)
new_address_lem b M (Read address n) bytes e = λ is allowed. absurd (omega arith)
new_address_lem b M ResetAddress bytes e = tt
new_address_lem b M Reset bytes e = tt

-- a request that was made: its frame, and what it passed
pub frame_is : (x : Sending) → (encoding x).number ≡ 0 → frame x ≡ instruction_bytes (bus x) x.to (instruction x)
unfolding request_bytes
frame_is x e = (encoded-made (bus x) x.profile.longest x.request x.to x.bytes x.room e).bytes_are

pub made_allowed : (x : Sending) → (encoding x).number ≡ 0 → AllowedBy (bus x) x.profile.longest x.to (instruction x)
made_allowed x e = (encoded-made (bus x) x.profile.longest x.request x.to x.bytes x.room e).right.allowed

pub made_address : (x : Sending) → (encoding x).number ≡ 0 → NewAddress (bus x) (instruction x)
made_address x e =
    new_address_lem (bus x) x.profile.longest x.request x.bytes
    (encoded-made (bus x) x.profile.longest x.request x.to x.bytes x.room e).right.numbers_right

-- commands

sent-request : (b : Bus) (beside to code : ℕ) (arguments : List ℕ) → Beside b beside to
    → destination b beside (request b to code arguments) ≡ to
sent-request I2c beside to code arguments e = e
sent-request Rs485 beside to code arguments e = destination-request beside to code arguments

pub executed-performed : (p : Profile) (s : State) (code : ℕ) (arguments d : List ℕ) → served code ≡ true
    → length_allowed code (length arguments) ≡ true
    → executed p s code arguments d ≡ performed p s code arguments d
unfolding executed
executed-performed p s code arguments d row long = rw (row, long)

-- general calls

verdict_reset_address : (b : Bus) (M : ℕ) (own : Address) (beside : ℕ) → Beside b beside 0
    → verdict b M false own beside (reset_address_frame b) ≡ verdicts.ResetAddress
unfolding verdict reset_address_frame reset_frame same sealed sum run byte bit
verdict_reset_address I2c M own beside e = rw e
verdict_reset_address Rs485 M own beside e = refl

pub verdict_reset : (b : Bus) (M : ℕ) (running : Bool) (own : Address) (beside : ℕ) → Beside b beside 0
    → verdict b M running own beside (reset_frame b) ≡ verdicts.Reset
unfolding verdict reset_frame same sealed sum run byte bit
verdict_reset I2c M running own beside e = rw e
verdict_reset Rs485 M running own beside e = refl

module _ (x : Sending) (none : refusal x.profile x.state (length x.flash) x.buffer ≡ 0) where
  commanded : (code : ℕ) (arguments : List ℕ) → frame x ≡ request (bus x) x.to code arguments → Beside (bus x) x.beside x.to
      → (x.state.running ≡ false) × (addressed (bus x) x.state.address x.to ≡ true)
      → Allowed (bus x) x.profile.longest x.to code (length arguments) → TakenAs x code arguments
  unfolding handled
  commanded code arguments form beside heard allowed =
      let sent = sent-request (bus x) x.beside x.to code arguments beside in
      let command : verdict_on x ≡ verdicts.Command =
      rw (form, heard.0) (verdict-request (bus x) x.profile.longest x.state.address x.beside x.to code arguments sent
      heard.1 allowed.fits) in
      let code_is : command_of (bus x) (frame x) ≡ code = rw form (command_of-request (bus x) x.to code arguments) in
      let arguments-is : arguments_of (bus x) (frame x) ≡ arguments = rw form (arguments_of-request (bus x) x.to code arguments) in
      let to_is : destination (bus x) x.beside (frame x) ≡ x.to = rw form sent in
      record {
        verdict_is = command;
        destination_is = to_is;
        command_is = code_is;
        arguments_are = arguments-is;
        call_is =
            received-handled x.profile x.state x.flash x.beside (frame x) x.buffer none
            ∙ rw (
              command,
              to_is,
              code_is,
              arguments-is,
              executed-performed x.profile x.state code arguments x.flash allowed.is_served allowed.length_allowed_holds,
            );
      }

  -- general calls

  reset_addressed : frame x ≡ reset_address_frame (bus x) → Beside (bus x) x.beside 0 → x.state.running ≡ false
      → (verdict_on x ≡ verdicts.ResetAddress) × (call x ≡ nothing (address_reset x.state) x.flash)
  unfolding handled
  reset_addressed form beside stopped =
      let heard : verdict_on x ≡ verdicts.ResetAddress =
      rw (form, stopped) (verdict_reset_address (bus x) x.profile.longest x.state.address x.beside beside) in
      (heard, received-handled x.profile x.state x.flash x.beside (frame x) x.buffer none ∙ rw heard)

  reset : frame x ≡ reset_frame (bus x) → Beside (bus x) x.beside 0 → (verdict_on x ≡ verdicts.Reset) × (call x ≡ nothing fresh x.flash)
  unfolding handled
  reset form beside =
      let heard : verdict_on x ≡ verdicts.Reset =
      rw form (verdict_reset (bus x) x.profile.longest x.state.running x.state.address x.beside beside) in
      (heard, received-handled x.profile x.state x.flash x.beside (frame x) x.buffer none ∙ rw heard)

understood : (x : Sending) (a : Instruction) → frame x ≡ instruction_bytes (bus x) x.to a
    → AllowedBy (bus x) x.profile.longest x.to a
    → Beside (bus x) x.beside (target x.to a) → refusal x.profile x.state (length x.flash) x.buffer ≡ 0
    → AddressedBy x.profile x.state x.to a → Understood x a
understood x (Commands code arguments) form allowed sent none heard = commanded x none code arguments form sent heard allowed
understood x AddressReset form allowed sent none heard = reset_addressed x none form sent heard
understood x BoardReset form allowed sent none heard = reset x none form sent

-- the arguments as the commands read them

carried : (b : Bus) (r : Request) (to : ℕ) (bytes : List ℕ)
    → Carried r bytes (arguments_of b (instruction_bytes b to (instruction_of r bytes)))
carried b (Plain code) to bytes = arguments_of-request b to code []
carried b (SetAddress address hardware) to bytes = arguments_of-request b to 0x01 (address ∷ hardware ∷ [])
carried b (Write address) to bytes = rw (arguments_of-request b to 0x06 (two_bytes address ++ bytes)) (div-add-mod' address 256, refl)
carried b (Read address n) to bytes = rw (arguments_of-request b to 0x08 (two_bytes address ++ n ∷ [])) (div-add-mod' address 256, refl)
carried b ResetAddress to bytes = tt
carried b Reset to bytes = tt

pub given_understood : (x : Sending) → Given x → Understood x (instruction x)
given_understood x given =
    understood x (instruction x) (frame_is x given.made) (made_allowed x given.made) given.sent given.none_refused
    given.heard

pub requests_understood : RequestsUnderstood
requests_understood x given = (given_understood x given, rw (frame_is x given.made) (carried (bus x) x.request x.to x.bytes))
