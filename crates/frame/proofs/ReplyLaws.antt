-- A reply is closed by laying its head over the buffer and sealing head and results: one law over the bus.
use mathlib.Core.Path.{◌≡◌, refl, sym, ap, ◌∙◌}
use mathlib.Core.List.{List, [], ◌∷◌, ◌++◌, append_assoc}
use Prim.Native.Nat.{ℕ, ◌+◌, ◌%◌, ◌≤◌}
use native.Mathlib.Omega.{arith}
use native.Mathlib.Nat.{add_assoc}
use lib.ListN.{length, take, drop, length-append, length-drop}
use lib.Seq.{take-append-add, drop-append-add, drop-drop, length-take-le}
use Rattle.rules.specs.declared.kinds.Bus.{Bus}
use Rattle.rules.specs.declared.kinds.Bus.TheVariants.{I2c, Rs485}
use Rattle.rules.specs.Bytes.{overlay}
use Rattle.rules.specs.Numbers.{laid}
use Rattle.rules.specs.CheckSums.{sealed, sum_length}
use Rattle.rules.specs.Frames.{header, header_length, shortest_reply, reply}
use Rattle.laws.proofs.CheckSumLaws.{length-sealed}
use Rattle.laws.proofs.LaidLaws.{overlay-laid}
use Rattle.laws.proofs.SizeLaws.{length-header}
use Rattle.frame.specs.Seal.{Sealing}
use Rattle.frame.specs.Reply.{results_at, Closing}

-- what comes before the results
abbrev head : Bus → ℕ → ℕ → ℕ → List ℕ
head bus address status count = header bus address ++ status ∷ count ∷ []

length-head : (bus : Bus) (address status count : ℕ) → length (head bus address status count) ≡ header_length bus + 2
length-head I2c address status count = refl
length-head Rs485 address status count = refl

reply-head : (bus : Bus) (address status : ℕ) (results : List ℕ)
    → reply bus address status results ≡ sealed bus (head bus address status (length results) ++ results)
unfolding reply
reply-head I2c address status results = refl
reply-head Rs485 address status results = refl

closed : (bus : Bus) (address status count : ℕ) (out mid after : List ℕ) → count + shortest_reply bus ≤ length out
    → mid ≡ laid (head bus address status count) out → after ≡ laid (sealed bus (take (header_length bus + 2 + count) mid)) mid
    → after ≡ laid (reply bus address status (results_at bus count out)) out
closed bus address status count out mid after room m a =
    let hd = head bus address status count in
    let long : length hd ≡ header_length bus + 2 = length-head bus address status count in
    let results : List ℕ = results_at bus count out in
    let many : length results ≡ count = length-take-le count (drop (header_length bus + 2) out) (simp length-drop (omega arith)) in
    let laidout : mid ≡ hd ++ drop (header_length bus + 2) out = m ∙ ap (λ (n : ℕ). hd ++ drop n out) long in
    let front : take (header_length bus + 2 + count) mid ≡ hd ++ results =
    rw (laidout, ← long) (take-append-add hd (drop (length hd) out) count) in
    let sealedAll = sealed bus (hd ++ results) in
    let size : length sealedAll ≡ length hd + (count + sum_length bus) =
    length-sealed bus (hd ++ results) ∙ rw (length-append, many) (add_assoc (length hd) count (sum_length bus)) in
    let behind : drop (length sealedAll) mid ≡ drop (length sealedAll) out =
    rw (
      size,
      laidout,
      drop-append-add hd (drop (header_length bus + 2) out) (count + sum_length bus),
      drop-drop (count + sum_length bus) (header_length bus + 2) out,
      ← long,
    ) in
    a ∙ rw (front, behind, reply-head, many)

-- header, then status and count, then the check sum, each stored behind what is there
pub closing : (bus : Bus) (address status count h : ℕ) (out headed mid after : List ℕ) (r : ℕ) → count ≤ 255
    → count + shortest_reply bus ≤ length out → h ≡ header_length bus → headed ≡ laid (header bus address) out
    → mid ≡ overlay headed h (status ∷ count % 256 ∷ []) → Sealing bus (h + 2 + count) mid after r
    → Closing bus address status count out after r
closing bus address status count h out headed mid after r small room size lay store sealing =
    let byte : count % 256 ≡ count = omega arith in
    let front : mid ≡ laid (head bus address status count) out =
    store ∙ rw (lay, byte) (overlay-laid (header bus address) (status ∷ count ∷ []) out h (length-header bus address ∙ sym size)) in
    record {
      length_is = sealing.length_is ∙ rw size (omega arith);
      bytes_are = closed bus address status count out mid after room front (rw size at sealing.bytes_are);
    }
