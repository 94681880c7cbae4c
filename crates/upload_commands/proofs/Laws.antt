-- What write and finalize ask of the upload holds where none of the numbers 2 to 5 applies.
use mathlib.Core.Path.{◌≡◌, refl, sym, ap, ◌∙◌}
use mathlib.Core.Bool.{Bool, true, false, ◌||◌}
use mathlib.Core.List.{List, []}
use Prim.Native.Nat.{ℕ, ◌+◌, ◌-◌, ◌≤◌}
use native.Mathlib.Omega.{arith}
use lib.Dec.{eqb, leb}
use borrow.Author.Tests.{eqb-true, leb-true}
use Rattle.rules.specs.Profile.{in_range}
use Rattle.rules.specs.State as rules
use Rattle.rules.specs.State.{upload_formed}
use Rattle.rules.specs.Commands.{accepted, restarted}
use Rattle.laws.proofs.TestLaws.{&&_true}
use Rattle.laws.proofs.StateLaws.{upload_formed_facts, facts_upload_formed, unrefused_profile, unrefused_state}
use Rattle.state.specs.declared.Head.{Head}
use Rattle.state.specs.declared.Upload.{Upload}
use Rattle.state.specs.View.{upload_of}
use Rattle.state.specs.Heads.{upload_with}
use Rattle.profile.specs.declared.Profile.{Profile}
use Rattle.profile.specs.View.{profile_of}
use Rattle.response.specs.Done.{Serving}
use Rattle.commit.specs.Progress.{Ready, Formed}

module _ (p : Profile) (h : Head) (n m at : ℕ) (serving : Serving p h n m at) where
  pub upload_formed_lem : (w : List ℕ) → upload_formed (profile_of p).page p.size (upload_of (upload_with h.counts w)) ≡ true
  upload_formed_lem w =
      facts_upload_formed (profile_of p).page p.size (upload_of (upload_with h.counts w))
      (unrefused_state (serving.unrefused w [])).upload

  -- an upload that is formed goes on
  pub ready : (u : Upload) → upload_formed (profile_of p).page p.size (upload_of u) ≡ true → Ready p u n
  ready u formed =
      let unrefused = serving.unrefused [] [] in
      record { in_range_holds = unrefused.in_range_holds; flash_holds = unrefused.flash_holds; formed = formed }

  -- the erase count fits two bytes
  pub count_most : (u : Upload) (next : ℕ) → Formed p u next → u.count ≤ 65535
  count_most u next formed =
      let f = upload_formed_facts (profile_of p).page p.size (upload_of u) formed.formed in
      omega (arith, f.count_most, f.next_most, (unrefused_profile (serving.unrefused [] [])).size_most)

-- an upload that begins anew, or goes on, is formed
pub restarted_formed : (P S a : ℕ) (u : rules.Upload) → upload_formed P S u ≡ true → upload_formed P S (restarted a u) ≡ true
restarted_formed P S a u formed = go (eqb a 0) refl
  where
    go : (b : Bool) → eqb a 0 ≡ b → upload_formed P S (restarted a u) ≡ true
    go true e =
        rw e (facts_upload_formed P S rules.fresh_upload
        (record { next_most = omega arith; waiting_most = omega arith; count_most = omega arith }))
    go false e = rw e formed

-- an accepted write's data follow the bytes that the upload has then, within S
pub accepted_fits : (S a n : ℕ) (u : rules.Upload) → accepted S u.next a n ≡ true → (restarted a u).next + n ≤ S
accepted_fits S a n u e = go (eqb a 0) refl
  where
    parts : ((eqb a 0 || eqb a u.next) ≡ true) × (leb (a + n) S ≡ true)
    parts = &&_true (eqb a 0 || eqb a u.next) (leb (a + n) S) e

    go : (b : Bool) → eqb a 0 ≡ b → (restarted a u).next + n ≤ S
    go true f = rw f (omega (arith, leb-true (a + n) S parts.1))
    go false f =
        let next : eqb a u.next ≡ true = rw f at parts.0 in
        rw f (omega (arith, eqb-true a u.next next, leb-true (a + n) S parts.1))
