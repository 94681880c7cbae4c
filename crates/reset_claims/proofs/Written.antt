-- The reset is written for version 0.0 alone, always then where it can be, and is the encoder's.
use mathlib.Core.Path.{◌≡◌, refl, sym, ap, ◌∙◌}
use mathlib.Core.Bool.{Bool, true, false, cond, not, ◌&&◌, false≢true}
use mathlib.Core.List.{[]}
use Prim.Native.Nat.{ℕ, ◌≤◌}
use native.Mathlib.Omega.{arith}
use lib.Dec.{eqb}
use lib.ListN.{length}
use borrow.Author.Tests.{eqb-true, le-ltb}
use Rattle.rules.specs.declared.requests.Request.TheVariants.{Reset}
use Rattle.rules.specs.Profile.{frame_in_range}
use Rattle.rules.specs.Frames.{reset_frame}
use Rattle.rules.specs.Master.{Encoding, unmade, request_bytes, encoded, version_rule, running_reset}
use Rattle.laws.proofs.TestLaws.{by_test, &&_true}
use Rattle.roundtrip.proofs.Made.{encoded-made}
use Rattle.reset_running.specs.Resets.{reset_into}
use Rattle.reset_running.proofs.ResetLaws.{running}
use Rattle.reset_claims.specs.Running.{ResetInput, Written, WrittenForRunning, reset_bytes}

-- only 0.0 is neither known nor not known
only_running : (major minor : ℕ) → eqb (version_rule major minor).number 14 ≡ false → eqb (version_rule major minor).number 0 ≡ false
    → (major ≡ 0) × (minor ≡ 0)
unfolding version_rule
only_running major minor unknown known =
    by_test (eqb major 1) (λ e. absurd (false≢true (sym (rw e at known))))
    (λ e.
    by_test (eqb major 2) (λ g. absurd (false≢true (sym (rw (e, g) at known))))
    (λ g.
    by_test (eqb major 0 && eqb minor 0)
    (λ z. let parts = &&_true (eqb major 0) (eqb minor 0) z in (eqb-true major 0 parts.0, eqb-true minor 0 parts.1))
    (λ z. absurd (false≢true (sym (rw (e, g, z) at unknown))))))

-- the tests that a written reset has passed
passed : (range unknown known : Bool) (e : Encoding)
    → (cond (not range) (unmade 2) (cond unknown (unmade 14) (cond known (unmade 1) e))).number ≡ 0
    → (unknown ≡ false) × (known ≡ false) × (cond (not range) (unmade 2) (cond unknown (unmade 14) (cond known (unmade 1) e)) ≡ e)
passed false unknown known e z = absurd (omega arith)
passed true true known e z = absurd (omega arith)
passed true false true e z = absurd (omega arith)
passed true false false e z = (refl, refl, refl)

module _ (q : ResetInput) (written : Written q) where
  parts : (eqb (version_rule q.major q.minor).number 14 ≡ false)
      × (eqb (version_rule q.major q.minor).number 0 ≡ false)
      × (running_reset q.bus q.longest q.major q.minor q.room ≡ encoded q.bus q.longest Reset 0 [] q.room)
  unfolding running_reset
  parts =
      passed (frame_in_range q.longest) (eqb (version_rule q.major q.minor).number 14)
      (eqb (version_rule q.major q.minor).number 0) (encoded q.bus q.longest Reset 0 [] q.room) written

  -- its bytes
  pub bytes_are : reset_bytes q ≡ reset_frame q.bus
  unfolding request_bytes
  bytes_are =
      let made = sym (ap (λ (e : Encoding). e.number) parts.2) ∙ written in
      ap (λ (e : Encoding). e.bytes) parts.2 ∙ (encoded-made q.bus q.longest Reset 0 [] q.room made).bytes_are

-- for 0.0, with an M in range and room for it
always_written : (q : ResetInput) → frame_in_range q.longest ≡ true → q.major ≡ 0 → q.minor ≡ 0 → length (reset_frame q.bus) ≤ q.room
    → Written q
unfolding version_rule reset_into
always_written q range major_is minor_is room =
    rw (running q.bus q.longest q.major q.minor q.room range (rw (major_is, minor_is)), le-ltb _ _ room)

pub written_for_running : WrittenForRunning
written_for_running = record {
  only =
      λ q written.
      let p = parts q written in
      let zeros = only_running q.major q.minor p.0 p.1 in
      record { major_is = zeros.0; minor_is = zeros.1; bytes_are = ap (λ (e : Encoding). e.bytes) p.2 };
  always = always_written;
}
