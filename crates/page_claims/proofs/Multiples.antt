-- A multiple of a page takes its states: the remainder by the page is at most the one by its multiple.
use mathlib.Core.Path.{◌≡◌}
use Prim.Native.Nat.{ℕ, ◌%◌, ◌≤◌}
use native.Mathlib.Omega.{arith}
use native.Mathlib.Nat.{mod-le, mod-mod_of_dvd, dvd_of_mod-eq-zero}
use Rattle.laws.proofs.StateLaws.{well_formed_facts, facts_well_formed}
use Rattle.wrongboards.specs.Variations.{with_page}
use Rattle.page_claims.specs.Pages.{MultipleTakes}

mod_multiple : (n page multiple : ℕ) → multiple % page ≡ 0 → n % page ≤ n % multiple
mod_multiple n page multiple e =
    rw (← mod-mod_of_dvd page n (dvd_of_mod-eq-zero page e)) (mod-le (n % multiple) page)

pub multiple_takes : MultipleTakes
multiple_takes p page s e formed =
    let facts = well_formed_facts p s formed in
    let u = s.upload in
    facts_well_formed (with_page p page) s
    (record {
      upload = record {
        next_most = facts.upload.next_most;
        waiting_most = omega (arith, facts.upload.waiting_most, mod_multiple u.next p.page page e);
        count_most = facts.upload.count_most;
      };
      reply = facts.reply;
    })
