-- A head and the two buffers that a call is lent make a state; what it means is that state's view.
use Rattle.std.specs.Prelude.{List, ℕ}
use Rattle.rules.specs.declared.kinds.Bus.{Bus}
use Rattle.rules.specs.declared.kinds.Bus.TheVariants.{I2c, Rs485}
use Rattle.rules.specs.Numbers.{laid}
use Rattle.state.specs.declared.Upload.{Upload}
use Rattle.state.specs.declared.Counts.{Counts}
use Rattle.state.specs.declared.Head.{Head}
use Rattle.state.specs.declared.State.{State}

-- the upload of these numbers with the buffer w
abbrev pub upload_with : Counts → List ℕ → Upload
upload_with u w = record { next = u.next; held = u.held; count = u.count; waiting = w }

-- the state of a head, with the waiting bytes' buffer w and the last reply's buffer l
abbrev pub state_with : Head → List ℕ → List ℕ → State
state_with h w l = record {
  address = h.address;
  running = h.running;
  upload = upload_with h.counts w;
  last = record { len = h.len; bytes = l };
}

-- the head of a state
abbrev pub head_of : State → Head
head_of s = record {
  address = s.address;
  running = s.running;
  counts = record { next = s.upload.next; held = s.upload.held; count = s.upload.count };
  len = s.last.len;
}

-- the last reply's buffer after a reply: only I²C keeps it; the buffer's rest is untouched
abbrev pub kept_reply : Bus → List ℕ → List ℕ → List ℕ
kept_reply I2c reply l = laid reply l
kept_reply Rs485 reply l = l
