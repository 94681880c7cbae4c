-- Laws of `laid`: bytes written one after the other from the front of a lent output, stored or set, and a check sum behind them.
use mathlib.Core.Path.{◌≡◌, refl, sym, ap, ◌∙◌}
use mathlib.Core.List.{List, [], ◌∷◌, ◌++◌, append_assoc}
use Prim.Native.Nat.{ℕ, suc, ◌+◌, ◌<◌, ◌≤◌}
use native.Mathlib.Omega.{arith}
use native.Mathlib.Nat.{zero-add}
use native.Mathlib.Numerals.{add-one}
use lib.ListN.{length, take, drop, set, length-append, length-take, length-drop}
use lib.Seq.{drop-cons, drop-drop, drop-append-add, set_at, take_at}
use Rattle.rules.specs.declared.kinds.Bus.{Bus}
use Rattle.rules.specs.Bytes.{overlay}
use Rattle.rules.specs.CheckSums.{sum, sealed}
use Rattle.rules.specs.Numbers.{laid}

pub length-laid : (xs out : List ℕ) → length xs ≤ length out → length (laid xs out) ≡ length out
length-laid xs out h = simp (length-append, length-drop) (omega arith)

-- the bytes laid
pub take-laid : (xs out : List ℕ) (n : ℕ) → length xs ≡ n → take n (laid xs out) ≡ xs
take-laid xs out n e = take_at xs (drop (length xs) out) n e

-- what comes behind them
pub drop-laid : (xs out : List ℕ) (n : ℕ) → drop (length xs + n) (laid xs out) ≡ drop (length xs + n) out
drop-laid xs out n = drop-append-add xs (drop (length xs) out) n ∙ drop-drop n (length xs) out

-- one byte more
pub laid_snoc : (xs out : List ℕ) (n b : ℕ) → length xs ≡ n → n < length out → set (laid xs out) n b ≡ laid (xs ++ b ∷ []) out
laid_snoc xs out n b e h =
    let room : length xs < length out = omega arith in
    let next : suc (length xs) ≡ length (xs ++ b ∷ []) = simp length-append (omega arith) in
    rw (drop-cons out (length xs) 0 room)
    (set_at xs _ _ b n e ∙ rw (append_assoc, next))

-- more bytes behind those laid
pub laid_over : (xs ys out : List ℕ) → laid (xs ++ ys) (laid xs out) ≡ laid (xs ++ ys) out
laid_over xs ys out = rw (length-append) (ap (λ (l : List ℕ). (xs ++ ys) ++ l) (drop-laid xs out (length ys)))

-- bytes stored at the front
pub overlay-first : (xs out : List ℕ) → overlay out 0 xs ≡ laid xs out
unfolding overlay
overlay-first xs out = rw zero-add

-- bytes stored behind the first n
pub overlay_behind : (d bytes : List ℕ) (n : ℕ) → n ≤ length d → overlay d n bytes ≡ laid (take n d ++ bytes) d
unfolding overlay
overlay_behind d bytes n h =
    let long : length (take n d ++ bytes) ≡ n + length bytes = simp (length-append, length-take) (omega arith) in
    rw long

-- bytes stored behind those laid
pub overlay-laid : (xs ys out : List ℕ) (n : ℕ) → length xs ≡ n → overlay (laid xs out) n ys ≡ laid (xs ++ ys) out
unfolding overlay
overlay-laid xs ys out n e =
    rw (take-laid xs out n e, ← e, drop-laid xs out (length ys)) (ap (λ (k : ℕ). xs ++ ys ++ drop k out) (sym (length-append xs ys)))

-- the check sum behind those laid
pub laid-sealed : (bus : Bus) (xs out : List ℕ) (n : ℕ) → length xs ≡ n
    → laid (sealed bus (take n (laid xs out))) (laid xs out) ≡ laid (sealed bus xs) out
unfolding sealed
laid-sealed bus xs out n e = rw (take-laid xs out n e) (laid_over xs (sum bus xs) out)
