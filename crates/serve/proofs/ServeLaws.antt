-- A command's results fit.
use mathlib.Core.Path.{◌≡◌}
use mathlib.Core.List.{List}
use Prim.Native.Nat.{ℕ, ◌≤◌}
use native.Mathlib.Omega.{arith}
use Rattle.std.specs.Prelude.{Option}
use lib.ListN.{length}
use Rattle.rules.specs.Profile.{Profile}
use Rattle.rules.specs.State as rules
use Rattle.rules.specs.Responses.{Response, Reply, NoReply}
use Rattle.rules.specs.Commands.{executed}
use Rattle.laws.proofs.CommandLaws as laws
use Rattle.rules.specs.Numbers.{Unrefused}
use Rattle.laws.proofs.StateLaws.{unrefused_profile, unrefused_state}
use Rattle.response.specs.declared.Response as response
use Rattle.response.specs.Done.{counted}
use Rattle.answer.specs.HeadAnswered.{Fits}

-- a command's results fit the reply buffer and the last reply
pub fits_counted : (p : Profile) (n : ℕ) (r : Response) → p.longest ≤ 256 → p.longest ≤ n → laws.Fits p r → Fits p.bus n (counted r)
fits_counted p n (Reply status results) small room fits = (omega arith, omega arith)
fits_counted p n NoReply small room fits = tt

-- the response of a command fits the buffer that it was served with
pub fits_served : (p : Profile) (s : rules.State) (code : ℕ) (args d : List ℕ) (n m k : ℕ) → Unrefused p s n m → length d ≡ n → k ≡ m
    → (r : Option response.Response)
    → r ≡ counted (executed p s code args d).response → Fits p.bus k r
fits_served p s code args d n m k unrefused flash buffer r e =
    let profile = unrefused_profile unrefused in
    let formed-result =
    laws.executed_formed_result p profile s (unrefused_state unrefused).upload d (omega (arith, unrefused.flash_holds)) code args in
    rw e (fits_counted p k (executed p s code args d).response profile.longest_most
    (omega (arith, unrefused.buffer_holds)) formed-result.fits)
