-- The malformed-state rule on the numbers that a state of the code holds: `held` is the length of the waiting bytes that it says, and `len`
-- that of the last reply. And what stands in a buffer behind the bytes in use, and the fresh head.
use mathlib.Core.Path.{◌≡◌, sym, ap, ◌∙◌}
use mathlib.Core.Bool.{◌&&◌}
use mathlib.Core.List.{List}
use Prim.Native.Nat.{ℕ, ◌-◌, ◌%◌, ◌≤◌}
use native.Mathlib.Omega.{arith}
use native.Mathlib.Nat.{mod-le}
use lib.Dec.{leb}
use lib.ListN.{length, drop, length-append, take-append-drop}
use lib.Seq.{take_at}
use Rattle.rules.specs.State as rules
use Rattle.rules.specs.State.{used, upload_formed}
use Rattle.rules.specs.Numbers.{laid}
use Rattle.laws.proofs.StateLaws.{used-take, used-zero, length-used, UploadFacts}
use Rattle.state.specs.declared.Upload.{Upload}
use Rattle.state.specs.declared.Last.{Last}
use Rattle.state.specs.declared.Head.{Head}
use Rattle.state.specs.declared.State.{State}
use Rattle.state.specs.View.{upload_of, last_of, view, zeroed}
use Rattle.state.specs.Heads.{state_with}

-- an upload

pub length_waiting : (u : Upload) → length (upload_of u).waiting ≡ u.held
length_waiting u = length-used u.held u.waiting

pub record HeldFacts (page S : ℕ) (u : Upload) : Type 0 where
  pub next_most : u.next ≤ S
  pub held_most : u.held ≤ u.next % page
  pub held_next : u.held ≤ u.next
  pub count_most : u.count ≤ u.next - u.held

pub upload_held : (page S : ℕ) (u : Upload) → UploadFacts page S (upload_of u) → HeldFacts page S u
upload_held page S u f =
    let held : u.held ≤ u.next % page = rw (length_waiting u) at f.waiting_most in
    record {
      next_most = f.next_most;
      held_most = held;
      held_next = omega (arith, mod-le u.next page);
      count_most = rw (length_waiting u) at f.count_most;
    }

-- the rule as a test on the numbers
pub upload_formed_held : (page S : ℕ) (u : Upload)
    → upload_formed page S (upload_of u) ≡ (leb u.next S && (leb u.held (u.next % page) && leb u.count (u.next - u.held)))
unfolding upload_formed
upload_formed_held page S u = rw (length_waiting u)

-- a last reply

pub length_last : (l : Last) → length (last_of l) ≡ l.len
length_last l = length-used l.len l.bytes

-- how many bytes are in use is told by these
pub used_many : (n m : ℕ) (w v : List ℕ) → used n w ≡ used m v → n ≡ m
used_many n m w v e = sym (length-used n w) ∙ ap length e ∙ length-used m v

-- a buffer that bytes were laid into has them in use
pub used-laid : (n : ℕ) (xs buffer : List ℕ) → length xs ≡ n → used n (laid xs buffer) ≡ xs
used-laid n xs buffer long =
    used-take n (laid xs buffer) (omega (arith, length-append xs (drop (length xs) buffer)))
    ∙ take_at xs (drop (length xs) buffer) n long

-- a buffer whose bytes from n on are those of another one: the bytes in use, laid into that
pub laid-used : (n : ℕ) (buffer before : List ℕ) → n ≤ length buffer → drop n buffer ≡ drop n before
    → buffer ≡ laid (used n buffer) before
laid-used n buffer before long behind =
    sym (take-append-drop n buffer)
    ∙ rw (behind, length-used n buffer, used-take n buffer long)

-- the fresh board's head, whatever the buffers
pub fresh-head : (h : Head) (v m : List ℕ) → state_with h v m ≡ zeroed → (w l : List ℕ) → view (state_with h w l) ≡ rules.fresh
fresh-head h v m e w l =
    rw (
      ap (λ (s : State). s.address) e,
      ap (λ (s : State). s.running) e,
      ap (λ (s : State). s.upload.next) e,
      ap (λ (s : State). s.upload.held) e,
      ap (λ (s : State). s.upload.count) e,
      ap (λ (s : State). s.last.len) e,
      used-zero w,
      used-zero l,
    )
