-- `text::read::Fields::read_numbers` meets its contract: the numbers stored, and then those left to read, are all of them.
use Rattle.std.proofs.Common.{◌≡◌, ℕ, suc, ◌-◌, ◌+◌, sym, ◌∙◌, arith, length-set}
use Rattle.text.proofs.ReadLaws.{numbers_wrong, numbers_next, numbers_end, place_next, read_wrong, read_next}
use Rattle.text.specs.Read.{place_after, place_read}
use Rattle.text.proofs.read.Fields.read_numbers.Goals as goal

pub returns-in_err-value-clause-values : goal.returns-in_err-value-clause-values
returns-in_err-value-clause-values g c =
    let i : ℕ = c.loop-value.value-index in
    let left : g.row.N - i ≡ suc (g.row.N - (i + 1)) = omega arith in
    c.from_residual.ensures
    ∙ numbers_wrong _ _ _ _ _ _ _ left (sym c.in_err-value.ensures.value) c.loop-value.invariant.2

pub returns-in_err-value-clause-stop : goal.returns-in_err-value-clause-stop
returns-in_err-value-clause-stop g c =
    let i : ℕ = c.loop-value.value-index in
    let left : g.row.N - i ≡ suc (g.row.N - (i + 1)) = omega arith in
    read_wrong _ _ _ _ _ _ _ left (sym c.in_err-value.ensures.value) c.in_err-value.ensures.place c.loop-value.invariant.4

pub loop-value-preserved : goal.loop-value-preserved
loop-value-preserved g c =
    let i : ℕ = c.loop-value.value-index in
    let left : g.row.N - i ≡ suc (g.row.N - (i + 1)) = omega arith in (
      simp length-set c.loop-value.invariant.0,
      c.in_ok-value.ensures.line ∙ c.loop-value.invariant.1,
      numbers_next _ _ _ _ _ _ _ _ _ _ _ left (omega arith) (sym c.in_ok-value.ensures.value) c.in_ok-value.ensures.line
          c.in_ok-value.ensures.place c.loop-value.invariant.2,
      place_next _ _ _ _ _ _ _ left c.in_ok-value.ensures.line c.in_ok-value.ensures.place c.loop-value.invariant.3,
      read_next _ _ _ _ _ _ _ _ _ left (sym c.in_ok-value.ensures.value) c.in_ok-value.ensures.line c.in_ok-value.ensures.place
          c.loop-value.invariant.4,
    )

pub returns-clause-values : goal.returns-clause-values
returns-clause-values g c =
    let none : g.row.N - c.loop-value.value-index ≡ 0 = omega arith in
    numbers_end _ _ _ _ _ _ _ none (omega arith) c.loop-value.invariant.2

pub returns-clause-place : goal.returns-clause-place
unfolding place_after
returns-clause-place g c =
    let none : g.row.N - c.loop-value.value-index ≡ 0 = omega arith in
    λ some. rw none at c.loop-value.invariant.3

pub returns-clause-stop : goal.returns-clause-stop
unfolding place_read
returns-clause-stop g c =
    let none : g.row.N - c.loop-value.value-index ≡ 0 = omega arith in
    rw none at c.loop-value.invariant.4
