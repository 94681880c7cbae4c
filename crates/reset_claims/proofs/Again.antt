-- After the reset the board is fresh, and so answers the version request in the default range.
use mathlib.Core.Path.{◌≡◌, refl, sym, subst}
use mathlib.Core.Bool.{true, not, ◌&&◌}
use mathlib.Core.List.{List, [], ◌∷◌}
use Prim.Native.Nat.{ℕ, ◌≤◌}
use native.Mathlib.Omega.{arith}
use lib.Dec.{eqb, leb}
use lib.ListN.{length}
use borrow.Author.Tests.{leb-true}
use Rattle.rules.specs.declared.kinds.Bus.{Bus}
use Rattle.rules.specs.declared.kinds.Address.TheVariants.{DefaultRange}
use Rattle.rules.specs.declared.requests.Request.TheVariants.{Plain}
use Rattle.rules.specs.Profile.{Profile}
use Rattle.rules.specs.State.{fresh}
use Rattle.rules.specs.Numbers.{refusal}
use Rattle.rules.specs.Frames.{address_fits, answers_to, addressed}
use Rattle.rules.specs.Commands.{tabled, performed}
use Rattle.rules.specs.Board.{Called, nothing}
use Rattle.laws.proofs.TestLaws.{&&_true}
use Rattle.laws.proofs.StateLaws.{refusal_unrefused, unrefused_refusal, fresh-well_formed}
use Rattle.roundtrip.specs.Exchanges.{Line, Board, Ready, Ok, results}
use Rattle.roundtrip.proofs.Encodes.{plain_made}
use Rattle.roundtrip.proofs.Exchange.{exchange}
use Rattle.reset_claims.specs.Running.{asked_again, AnswersAgain}
use Rattle.reset_claims.proofs.Resets.{received_reset}

-- the default range is within a byte
default_byte : (bus : Bus) (a : ℕ) → addressed bus DefaultRange a ≡ true → a ≤ 255
unfolding addressed
default_byte bus a e =
    let fits = (&&_true (not (eqb a 0)) (address_fits bus a && answers_to DefaultRange a) e).1 in
    let within = (&&_true (address_fits bus a) (leb 8 a && leb a 15) fits).1 in
    omega (arith, leb-true a 15 (&&_true (leb 8 a) (leb a 15) within).1)

module _ (p : Profile) (d : List ℕ) (n to : ℕ) (none : refusal p fresh (length d) n ≡ 0) (heard : addressed p.bus DefaultRange to ≡ true)
  where
    abbrev l : Line
    l = record { profile = p; to = to; buffer = n }

    abbrev b : Board
    b = record { state = fresh; flash = d }

    ready : Ready l b
    ready = record { none_refused = none; stopped = refl; heard = heard; byte = default_byte p.bus to heard }

    fresh-answers : Ok (asked_again p (nothing fresh d) to n) × (results (asked_again p (nothing fresh d) to n) ≡ 2 ∷ 2 ∷ [])
    unfolding tabled performed
    fresh-answers =
        let done =
        exchange l b ready (record { request = Plain 0x00; bytes = [] }) 0x00 [] (2 ∷ 2 ∷ []) fresh.upload d
        (plain_made l b ready 0x00 refl refl) refl (λ e. absurd (omega (arith, e))) refl in
        (done.answered_ok_holds, done.results_are)

pub answers_again : AnswersAgain
answers_again q p s d a n to written same-bus general none heard =
    let before = refusal_unrefused p s (length d) n none in
    let still : refusal p fresh (length d) n ≡ 0 =
    unrefused_refusal p fresh (length d) n before.in_range_holds (fresh-well_formed p) before.flash_holds before.buffer_holds in
    subst (λ (c : Called). Ok (asked_again p c to n) × (results (asked_again p c to n) ≡ 2 ∷ 2 ∷ []))
    (sym (received_reset q p s d a n written same-bus general none)) (fresh-answers p d n to still heard)
