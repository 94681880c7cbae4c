-- Demand 1: what a refused call, a foreign frame and a damaged frame leave as it was. Of the rules, in any state; and over any board.
use Rattle.std.specs.Prelude.{◌≡◌, ◌⊎◌, Bool, true, not, ◌&&◌, List, [], ◌∷◌, ℕ, ◌≤◌, eqb}
use Rattle.rules.specs.declared.kinds.Bus.{Bus}
use Rattle.rules.specs.declared.kinds.Bus.TheVariants.{I2c, Rs485}
use Rattle.rules.specs.declared.kinds.Address.{Address}
use Rattle.rules.specs.Bytes.{same}
use Rattle.rules.specs.Profile.{Profile}
use Rattle.rules.specs.State.{State}
use Rattle.rules.specs.CheckSums.{sum_right}
use Rattle.rules.specs.Commit.{OutsideKept}
use Rattle.rules.specs.Frames.{destination, addressed, reset_frame}
use Rattle.rules.specs.Board.{refused, received, read_out}
use Rattle.ledger.specs.Calls.{Call, Frame, Read, Board, Step, traced}
use Rattle.demands.specs.Past.{Known, initially, after}
use Rattle.demands.specs.Acceptance.{Unchanged}

-- a call refused by 2 or above, W3's 15 to 18 among them, gives back the very state, flash and buffers; a tally is none of these
abbrev pub RefusedUntouched : Type 0
RefusedUntouched =
    (p : Profile) (s : State) (a : ℕ) (f d : List ℕ) (n : ℕ)
    → (2 ≤ (received p s a f d n).number → received p s a f d n ≡ refused (received p s a f d n).number s d)
    × (2 ≤ (read_out p s a d n).number → read_out p s a d n ≡ refused (read_out p s a d n).number s d)

-- the frame is for neither this board nor all boards
abbrev pub foreign : Profile → Address → ℕ → List ℕ → Bool
foreign p own a f = not (addressed p.bus own (destination p.bus a f)) && not (eqb (destination p.bus a f) 0)

-- the I²C reset has no check sum: the one byte 06 to address 0
abbrev pub summed : Bus → ℕ → List ℕ → Bool
summed I2c a f = not (eqb a 0 && same f (reset_frame I2c))
summed Rs485 a f = true

-- its check sum is wrong
abbrev pub damaged : Profile → ℕ → List ℕ → Bool
damaged p a f = summed p.bus a f && not (sum_right p.bus f)

-- a foreign frame, or one with a wrong check sum, changes neither flash nor upload
abbrev pub IgnoredFrames : Type 0
IgnoredFrames =
    (p : Profile) (s : State) (a : ℕ) (f d : List ℕ) (n : ℕ) → (foreign p s.address a f ≡ true) ⊎ (damaged p a f ≡ true)
    → ((received p s a f d n).flash ≡ d) × ((received p s a f d n).state.upload ≡ s.upload)

-- bytes outside O to O + S - 1 never change: every call, every state and flash, refused or not
abbrev pub CallsKeepOutside : Type 0
CallsKeepOutside =
    (p : Profile) (s : State) (a : ℕ) (f d : List ℕ) (n : ℕ)
    → OutsideKept p d (received p s a f d n).flash × OutsideKept p d (read_out p s a d n).flash

-- over any board

abbrev pub StrayKept : Profile → Known → Step → Call → Type 0
StrayKept p k s (Frame a f n) = (foreign p k.past.address a f ≡ true) ⊎ (damaged p a f ≡ true) → Unchanged k s
StrayKept p k s (Read a n) = Unit

-- a step leaves flash and count where the call is refused by 2 or above, or the frame is foreign or damaged
pub record Untouched (p : Profile) (k : Known) (s : Step) : Type 0 where
  pub refused : 2 ≤ s.number → Unchanged k s
  pub stray : StrayKept p k s s.call

abbrev pub AllUntouched : Profile → Known → List Step → Type 0
AllUntouched p k [] = Unit
AllUntouched p k (s ∷ ss) = Untouched p k s × AllUntouched p (after p k s) ss

-- for every list of calls from the fresh board with any flash, under any profile
abbrev pub Demand1 : Board → Type 0
Demand1 B = (p : Profile) (d : List ℕ) (cs : List Call) → AllUntouched p (initially d (B.count B.fresh)) (traced B p d cs)
