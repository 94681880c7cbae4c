use Rattle.std.proofs.Common.{◌≡◌, ◌-◌, length, take}
use Rattle.text.specs.Read.{numbers_at, place_after, place_read}
use Rattle.text.proofs.ReadLaws.{joined}
use Rattle.text.proofs.read.Fields.read_numbers.Given as goal

abbrev pub invariant-loop-value : goal.invariant-loop-value
invariant-loop-value g l =
    (length l.value-items ≡ l.value-index-end) × (l.self.line.now ≡ l.initial.self.line.now)
    × (joined (take l.value-index l.value-items) (numbers_at l.most l.self.line.now l.self.at (l.value-index-end - l.value-index))
    ≡ numbers_at l.most l.initial.self.line.now l.initial.self.at l.value-index-end)
    × (place_after l.self.line.now l.self.at (l.value-index-end - l.value-index)
    ≡ place_after l.initial.self.line.now l.initial.self.at l.value-index-end)
    × (place_read l.most l.self.line.now l.self.at (l.value-index-end - l.value-index)
    ≡ place_read l.most l.initial.self.line.now l.initial.self.at l.value-index-end)
