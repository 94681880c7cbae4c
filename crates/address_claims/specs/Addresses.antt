-- W1: what set address does, and that no board comes to a reserved address.
use Rattle.std.specs.Prelude.{◌≡◌, Bool, true, cond, not, ◌&&◌, List, [], ◌∷◌, ℕ, length}
use Rattle.rules.specs.declared.kinds.Bus.{Bus}
use Rattle.rules.specs.declared.kinds.Bus.TheVariants.{I2c}
use Rattle.rules.specs.declared.kinds.Address.{Address}
use Rattle.rules.specs.declared.kinds.Address.TheVariants.{DefaultRange, Own}
use Rattle.rules.specs.Profile.{Profile}
use Rattle.rules.specs.State.{State, with_address}
use Rattle.rules.specs.Numbers.{refusal}
use Rattle.rules.specs.Frames.{address_fits, destination, command_of, arguments_of}
use Rattle.rules.specs.Responses.{replying, ok, invalid_arguments}
use Rattle.rules.specs.Commands.{address_taken, reserved, type_matches}
use Rattle.rules.specs.Board.{Called, nothing, with_reply, finished_call, received, read_out}
use Rattle.ledger.specs.Ledger.{answered_ok}
use Rattle.ledger.specs.Calls.{Call, Reaction, Board}
use Rattle.demands.specs.Past.{past_of, well_framed}
use Rattle.demands.specs.Acceptance.{new_address}

-- another type gets no reply; a reserved address is refused, and nothing but the last reply changes; any other is taken
abbrev pub address_answer : Profile → State → ℕ → List ℕ → ℕ → ℕ → Called
address_answer p s to d address hardware =
    cond (not (type_matches p hardware)) (nothing (with_reply p.bus s []) d)
    (cond (reserved p.bus (address_taken p.bus address)) (finished_call p.bus to (replying s d invalid_arguments []))
    (finished_call p.bus to (replying (with_address s (Own (address_taken p.bus address))) d ok [])))

-- so is answered every well-framed set address with two arguments, in any state in which none of 2 to 5 applies
abbrev pub SetAddressAnswered : Type 0
SetAddressAnswered =
    (p : Profile) (s : State) (a : ℕ) (f d : List ℕ) (n address hardware : ℕ) → refusal p s (length d) n ≡ 0
    → well_framed p (past_of s) a f ≡ true → command_of p.bus f ≡ 0x01 → arguments_of p.bus f ≡ address ∷ hardware ∷ []
    → received p s a f d n ≡ address_answer p s (destination p.bus a f) d address hardware

-- an address of the bus and none of the reserved; the default range has only such
abbrev pub unreserved : Bus → Address → Bool
unreserved bus DefaultRange = true
unreserved bus (Own a) = address_fits bus a && not (reserved bus a)

-- what a board keeps after a list of calls, each on what the last one left
unfoldable pub kept_after : (B : Board) → Profile → B.Kept → List ℕ → List Call → B.Kept
kept_after B p s d [] = s
kept_after B p s d (c ∷ cs) = let r : Reaction B.Kept = B.call p s d c in kept_after B p r.state r.flash cs

-- over any board, by the address that it keeps: for every list of calls from the fresh board with any flash, under any profile, an own
-- address is one of the bus and none of the reserved
abbrev pub NeverReserved : (B : Board) → (B.Kept → Address) → Type 0
NeverReserved B address = (p : Profile) (d : List ℕ) (cs : List Call) → unreserved p.bus (address (kept_after B p B.fresh d cs)) ≡ true

-- on I²C every OK to set address, in any state, leaves the board at an address where a read gives that reply and changes nothing
abbrev pub NewAddressRead : Type 0
NewAddressRead =
    (p : Profile) (s : State) (a : ℕ) (f d : List ℕ) (n : ℕ) → p.bus ≡ I2c
    → answered_ok I2c 0x01 f (received p s a f d n).number (received p s a f d n).reply ≡ true
    → read_out p (received p s a f d n).state (new_address I2c f) (received p s a f d n).flash n ≡ received p s a f d n
