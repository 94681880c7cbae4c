-- Document 01, "bus": the number by which a bus is named from outside.
use Rattle.std.specs.Prelude.{◌≡◌, ℕ, ◌<◌, Result, MatchResult}
use Rattle.rules.specs.declared.kinds.Bus.{Bus}
use Rattle.rules.specs.declared.kinds.Bus.TheVariants.{I2c, Rs485}
use Rattle.rules.specs.declared.kinds.UnknownBus.{UnknownBus}

-- the number of a bus
abbrev pub bus_number : Bus → ℕ
bus_number I2c = 0
bus_number Rs485 = 1

-- a number is that of its bus, or of none
abbrev pub BusNumbered : ℕ → Result Bus UnknownBus → Type 0
BusNumbered n r = MatchResult r (λ bus. bus_number bus ≡ n) (λ e. (e.0 ≡ n) × (1 < n))
