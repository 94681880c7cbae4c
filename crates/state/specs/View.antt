-- What a state says: bytes beyond w and beyond the last reply's length mean nothing and are left out. States with equal views count as
-- equal.
use Rattle.std.specs.Prelude.{◌≡◌, false, List, ℕ, replicate}
use Rattle.rules.specs.declared.kinds.Address.TheVariants.{DefaultRange}
pub use Rattle.rules.specs.Profile.{largest_page}
use Rattle.rules.specs.State as rules
use Rattle.rules.specs.State.{used}
use Rattle.state.specs.declared.Upload.{Upload}
use Rattle.state.specs.declared.Last.{Last}
use Rattle.state.specs.declared.State.{State}

-- the sizes that the state's own type has; `State::LARGEST_PAGE` is the rules' largestPage

-- the largest M, `State::LARGEST_FRAME`
abbrev pub largest_frame : ℕ
largest_frame = 256

abbrev pub upload_of : Upload → rules.Upload
upload_of u = record { next = u.next; waiting = used u.held u.waiting; count = u.count }

abbrev pub last_of : Last → List ℕ
last_of l = used l.len l.bytes

abbrev pub view : State → rules.State
view s = record { address = s.address; running = s.running; upload = upload_of s.upload; last = last_of s.last }

-- Fresh, down to the bytes that mean nothing: default range, not running, all the rest zero
abbrev pub zeroed : State
zeroed = record {
  address = DefaultRange;
  running = false;
  upload = record { next = 0; held = 0; count = 0; waiting = replicate largest_page 0 };
  last = record { len = 0; bytes = replicate largest_frame 0 };
}

-- what is promised of the fresh board: what it says, and each field of it
pub record Fresh (s : State) : Type 0 where
  pub viewed : view s ≡ rules.fresh
  pub all : s ≡ zeroed

-- a state of the code with another number of waiting bytes, the other fields kept
abbrev pub with_held : State → ℕ → State
with_held s n = record {
  address = s.address;
  running = s.running;
  upload = record { next = s.upload.next; held = n; count = s.upload.count; waiting = s.upload.waiting };
  last = s.last;
}
