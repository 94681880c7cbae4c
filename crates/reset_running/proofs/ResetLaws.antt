-- The reset for a running application, case by case: by the number that the version rule gives, under an M in range.
use Rattle.std.specs.Prelude.{Result}
use mathlib.Core.Path.{◌≡◌}
use mathlib.Core.Bool.{true}
use mathlib.Core.List.{[]}
use Prim.Native.Nat.{ℕ}
use Rattle.rules.specs.declared.kinds.Bus.{Bus}
use Rattle.rules.specs.declared.requests.Request.TheVariants.{Reset}
use Rattle.rules.specs.declared.requests.Version.{Version}
use Rattle.rules.specs.declared.requests.VersionError.{VersionError}
use Rattle.rules.specs.Profile.{frame_in_range}
use Rattle.rules.specs.Master.{request_bytes, argument_wrong, encoded, unmade, Ruled, application_running, ruled_as, version_rule}
use Rattle.rules.specs.Master.{running_reset}
use Rattle.reset_running.specs.Resets.{reset_into}

-- the encoder has nothing to refuse in a reset but its room
encoded_reset : (bus : Bus) (M n : ℕ) → frame_in_range M ≡ true → encoded bus M Reset 0 [] n ≡ reset_into bus n
unfolding request_bytes argument_wrong encoded reset_into
encoded_reset bus M n e = rw e

-- the version rule's number, by its answer
pub ruled-number : {v w : Result Version VersionError} {r : Ruled} → ruled_as v ≡ r → v ≡ w → r.number ≡ (ruled_as w).number
ruled-number e q = rw (← e, q)

module _ (bus : Bus) (M major minor n : ℕ) (in_range_holds : frame_in_range M ≡ true) where
  pub known : (version_rule major minor).number ≡ 0 → running_reset bus M major minor n ≡ unmade 1
  unfolding running_reset
  known e = rw (in_range_holds, e)

  pub unknown : (version_rule major minor).number ≡ 14 → running_reset bus M major minor n ≡ unmade 14
  unfolding running_reset
  unknown e = rw (in_range_holds, e)

  pub running : (version_rule major minor).number ≡ application_running → running_reset bus M major minor n ≡ reset_into bus n
  unfolding running_reset
  running e = rw (in_range_holds, e) (encoded_reset bus M n in_range_holds)
