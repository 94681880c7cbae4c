-- The ledger reads frames and replies at offsets of its own, knows the reset by its literal bytes, and looks at nothing else. What it reads
-- is what the rules mean: by the shape of a frame on each bus, computed.
use mathlib.Core.Path.{◌≡◌, refl, sym, ap, ◌∙◌}
use mathlib.Core.Bool.{Bool, true, false, cond, ◌&&◌, and-true, and-false}
use mathlib.Core.List.{List, [], ◌∷◌}
use Prim.Native.Nat.{ℕ, suc, ◌+◌, ◌-◌, ◌<◌, ◌≤◌}
use native.Mathlib.Omega.{arith}
use lib.Dec.{eqb}
use lib.ListN.{length, get_or, take, drop, length-take, length-drop}
use lib.Seq.{get_or-drop, get_or-take, drop-drop}
use borrow.Author.Tests.{eqb-true, ne_eqb}
use Rattle.rules.specs.declared.kinds.Bus.{Bus}
use Rattle.rules.specs.declared.kinds.Bus.TheVariants.{I2c, Rs485}
use Rattle.rules.specs.Profile.{Profile}
use Rattle.rules.specs.Bytes.{same}
use Rattle.rules.specs.CheckSums.{bit, byte, run, sum, sealed, unsealed}
use Rattle.rules.specs.Frames.{reply, two_bytes, number_at, command_of, arguments_of, is_general, reset_frame}
use Rattle.laws.proofs.BytesLaws.{drop-take}
use Rattle.laws.proofs.TestLaws.{&&_true}
use Rattle.ledger.specs.Ledger.{Ledger, opened, writes, finalizes, entered, offsets, write_address, write_data, count_bytes, high_low}
use Rattle.ledger.specs.Ledger.{reset_form, is_finalize, answered_ok}

-- the reset

reset_one : (f : List ℕ) → (eqb (length f) 1 && eqb (get_or f 0 0) 0x06) ≡ same f (0x06 ∷ [])
unfolding same
reset_one [] = refl
reset_one (x ∷ []) = sym (and-true (eqb x 0x06))
reset_one (x ∷ y ∷ f) = rw (ne_eqb (suc (suc (length f))) 1 (λ e. omega arith)) (sym (and-false (eqb x 0x06)))

-- a test asked twice
and_twice : (a b : Bool) → (a && (a && b)) ≡ (a && b)
and_twice true b = refl
and_twice false b = refl

reset_four : (f : List ℕ)
    → (eqb (length f) 4 && (eqb (get_or f 0 1) 0x00 && (eqb (get_or f 1 0) 0x46 && (eqb (get_or f 2 0) 0x80 && eqb (get_or f 3 0) 0x42))))
    ≡ (eqb (get_or f 0 0) 0 && same f (0x00 ∷ 0x46 ∷ 0x80 ∷ 0x42 ∷ []))
unfolding same
reset_four [] = refl
reset_four (x ∷ []) = simp and-false
reset_four (x ∷ y ∷ []) = simp and-false
reset_four (x ∷ y ∷ z ∷ []) = simp and-false
reset_four (x ∷ y ∷ z ∷ w ∷ []) = sym (rw (and-true (eqb w 0x42)) (and_twice (eqb x 0) _))
reset_four (x ∷ y ∷ z ∷ w ∷ v ∷ f) = rw (ne_eqb (suc (suc (suc (suc (suc (length f)))))) 4 (λ e. omega arith)) (simp and-false)

pub reset_form_lem : (bus : Bus) (a : ℕ) (f : List ℕ) → reset_form bus a f ≡ is_general bus a f (reset_frame bus)
unfolding reset_frame sealed sum run byte bit
reset_form_lem I2c a f = ap (λ (t : Bool). eqb a 0 && t) (reset_one f)
reset_form_lem Rs485 a f = reset_four f

-- replies

reply_status : (bus : Bus) (address status : ℕ) (results : List ℕ)
    → get_or (reply bus address status results) (offsets bus).command 1 ≡ status
unfolding reply sealed
reply_status I2c address status results = refl
reply_status Rs485 address status results = refl

pub reply_count : (bus : Bus) (address status n : ℕ) → count_bytes bus (reply bus address status (two_bytes n)) ≡ high_low n
unfolding reply sealed
reply_count I2c address status n = refl
reply_count Rs485 address status n = refl

command_is : (bus : Bus) (f : List ℕ) → get_or f (offsets bus).command 0 ≡ command_of bus f
command_is I2c f = refl
command_is Rs485 f = refl

-- what is answered OK
pub answered_reply : (bus : Bus) (code : ℕ) (f : List ℕ) (address status : ℕ) (results : List ℕ)
    → answered_ok bus code f 0 (reply bus address status results) ≡ (eqb (command_of bus f) code && eqb status 0)
answered_reply bus code f address status results =
    rw (command_is bus f) (ap (λ (n : ℕ). eqb (command_of bus f) code && eqb n 0) (reply_status bus address status results))

-- a write's arguments

-- what stands at a place of the arguments
argument_at : (n m i : ℕ) (f : List ℕ) → n + i < m → get_or (drop n (take m f)) i 0 ≡ get_or f (n + i) 0
argument_at n m i f h = get_or-drop n (take m f) i 0 ∙ get_or-take m f (n + i) 0 h

-- arguments that are there have their frame around them
arguments_long : (n m : ℕ) (f : List ℕ) → 2 ≤ length (drop n (take m f)) → n + 1 < m
arguments_long n m f h = omega (arith, length-drop n (take m f), length-take m f)

pub write_address_lem : (bus : Bus) (f : List ℕ) → 2 ≤ length (arguments_of bus f) → number_at (arguments_of bus f) 0 ≡ write_address bus f
write_address_lem I2c f h =
    let long = arguments_long 1 (length f - 1) f h in
    rw (argument_at 1 (length f - 1) 0 f (omega arith), argument_at 1 (length f - 1) 1 f long)
write_address_lem Rs485 f h =
    let long = arguments_long 2 (length f - 2) f h in
    rw (argument_at 2 (length f - 2) 0 f (omega arith), argument_at 2 (length f - 2) 1 f long)

pub write_data_lem : (bus : Bus) (f : List ℕ) → drop 2 (arguments_of bus f) ≡ write_data bus f
write_data_lem I2c f =
    let number : length f - 1 - 3 ≡ length f - 3 - 1 = omega arith in
    rw (drop-drop 2 1 (unsealed I2c f)) (drop-take 3 (length f - 1) f ∙ ap (λ (n : ℕ). take n (drop 3 f)) number)
write_data_lem Rs485 f =
    let number : length f - 2 - 4 ≡ length f - 4 - 2 = omega arith in
    rw (drop-drop 2 2 (unsealed Rs485 f)) (drop-take 4 (length f - 2) f ∙ ap (λ (n : ℕ). take n (drop 4 f)) number)

-- what the ledger makes of an answer

module _ (p : Profile) (k : Ledger) (a : ℕ) (f : List ℕ) where
  -- a refusal: number 2 or above
  pub entered-refused : (n : ℕ) (r : List ℕ) → 2 ≤ n → entered p k a f n r ≡ k
  unfolding entered
  entered-refused n r h =
      rw (ne_eqb n 1 (λ e. omega arith), ne_eqb n 0 (λ e. omega arith)) (simp and-false)

  -- nothing to send, and no reset
  pub entered-nothing : (r : List ℕ) → reset_form p.bus a f ≡ false → entered p k a f 1 r ≡ k
  unfolding entered
  entered-nothing r e = rw e (simp and-false)

  pub entered_reset : (r : List ℕ) → reset_form p.bus a f ≡ true → entered p k a f 1 r ≡ opened k.copy
  unfolding entered
  entered_reset r e = rw e

  -- a reply
  pub entered-reply : (address status : ℕ) (results : List ℕ)
      → entered p k a f 0 (reply p.bus address status results)
      ≡ cond (eqb (command_of p.bus f) 0x06 && eqb status 0) (writes p k (write_address p.bus f) (write_data p.bus f))
      (cond (eqb (command_of p.bus f) 0x07 && eqb status 0) (finalizes p k) k)
  unfolding entered
  entered-reply address status results =
      rw (
        and-false (reset_form p.bus a f),
        answered_reply p.bus 0x06 f address status results,
        answered_reply p.bus 0x07 f address status results,
      )

  -- an answered finalize is no reset and no write
  pub entered-finalize : (n : ℕ) (r : List ℕ) → is_finalize p.bus f n r ≡ true → entered p k a f n r ≡ finalizes p k
  unfolding entered
  entered-finalize n r e =
      let parts = &&_true (eqb (get_or f (offsets p.bus).command 0) 0x07) _ e in
      let zero = eqb-true n 0 (&&_true (eqb n 0) _ parts.1).0 in
      let seven = eqb-true (get_or f (offsets p.bus).command 0) 0x07 parts.0 in
      rw (e, zero, seven, and-false (reset_form p.bus a f))
