-- `page_claims::wrong_pages` meets its contract: a finalize with bytes 5 to 9 waiting leaves byte 0 changed, byte 5 as it was, or bytes
-- waiting; a state with a byte waiting before any was accepted is answered; and 70 waiting bytes get number 4 under a page of 128.
use Rattle.std.proofs.Common.{◌≡◌, refl, ap, List, [], ℕ, arith, length, get_or}
use Rattle.rules.specs.declared.kinds.Bus.TheVariants.{I2c}
use Rattle.rules.specs.State.{State}
use Rattle.rules.specs.Frames.{request}
use Rattle.ledger.specs.Calls.{Reaction}
use Rattle.wrongboards.specs.Variations.{paged_by}
use Rattle.wrongboards.specs.WrongBoards.{keeps_flash}
use Rattle.wrongboards.proofs.Computing.{computing}
use Rattle.wrongboards.proofs.Cases.{paged, small, zeros, sent, room}
use Rattle.page_claims.specs.Pages.{HandedIn}
use Rattle.page_claims.specs.WrongPages.{lays_at_page_start, keeps_waiting, takes_malformed}
use Rattle.page_claims.proofs.WrongCases.{state_with}
use Rattle.page_claims.proofs.wrong_pages.Goals as goal

at_page_start : HandedIn lays_at_page_start (λ s. s) → ⊥
unfolding computing
at_page_start h =
    let laid = (h.finalized (small I2c 64) (state_with 10 5) (zeros 64) 8 (request I2c 8 0x07 []) 128 refl refl refl refl).1 in
    let byte : ◌≡◌ {A = ℕ} 7 0 = ap (λ (l : List ℕ). get_or l 0 0) laid.flash_is in
    omega arith

not-laid : HandedIn keeps_flash (λ s. s) → ⊥
unfolding computing
not-laid h =
    let laid = (h.finalized (small I2c 64) (state_with 10 5) (zeros 64) 8 (request I2c 8 0x07 []) 128 refl refl refl refl).1 in
    let byte : ◌≡◌ {A = ℕ} 0 7 = ap (λ (l : List ℕ). get_or l 5 0) laid.flash_is in
    omega arith

still_waiting : HandedIn keeps_waiting (λ s. s) → ⊥
unfolding computing
still_waiting h =
    let laid = (h.finalized (small I2c 64) (state_with 10 5) (zeros 64) 8 (request I2c 8 0x07 []) 128 refl refl refl refl).1 in
    let many : ◌≡◌ {A = ℕ} 5 0 = ap (λ (l : List ℕ). length l) laid.none_waits in
    omega arith

takes_any : HandedIn takes_malformed (λ s. s) → ⊥
unfolding computing
takes_any h =
    let called = h.malformed (small I2c 64) (state_with 0 1) (zeros 64) (sent I2c 0x00 []) refl room refl in
    let number : ◌≡◌ {A = ℕ} 0 4 = ap (λ (r : Reaction State). r.number) called in
    omega arith

judges_by_64 : HandedIn (paged_by (λ page. 64)) (λ s. s) → ⊥
unfolding computing
judges_by_64 h =
    let number : ◌≡◌ {A = ℕ} 4 0 =
    (h.finalized (paged 128 I2c 128) (state_with 70 70) (zeros 128) 8 (request I2c 8 0x07 []) 128 refl refl refl refl).0 in
    omega arith

pub returns : goal.returns
returns c = (at_page_start, not-laid, still_waiting, takes_any, judges_by_64)
