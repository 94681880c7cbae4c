-- On I²C all addresses from 128 on are foreign alike, and RS485 does not look at the address beside a frame: so a number over 255 may stand
-- for any other.
use mathlib.Core.Path.{◌≡◌, refl, sym, ap, ◌∙◌}
use mathlib.Core.Bool.{Bool, true, false}
use mathlib.Core.List.{List, []}
use Prim.Native.Nat.{ℕ, ◌≤◌, ◌<◌}
use native.Mathlib.Omega.{arith}
use lib.Dec.{ltb}
use borrow.Author.Tests.{ne_eqb, le-ltb, ltb-true}
use Rattle.rules.specs.declared.kinds.Bus.{Bus}
use Rattle.rules.specs.declared.kinds.Bus.TheVariants.{I2c, Rs485}
use Rattle.rules.specs.declared.kinds.Address.{Address}
use Rattle.rules.specs.declared.kinds.Reason.TheVariants.{Running, Foreign}
use Rattle.rules.specs.declared.kinds.Verdict.{Verdict}
use Rattle.rules.specs.declared.kinds.Verdict.TheVariants.{Reset, ResetAddress, Ignored, BadTransfer, BadSum, Command}
use Rattle.rules.specs.Profile.{Profile}
use Rattle.rules.specs.State.{State}
use Rattle.rules.specs.Frames.{addressed, framing, verdict}
use Rattle.rules.specs.Board.{handled, received, read_answered, read_out}
use Rattle.laws.proofs.TestLaws.{by_test}
use Rattle.fields.specs.Fields.{clipped}

addressed-foreign : (own : Address) (a : ℕ) → 128 ≤ a → addressed I2c own a ≡ false
unfolding addressed
addressed-foreign own a h = rw (ne_eqb a 0 (λ e. omega arith), le-ltb a 128 h)

-- on I²C

foreign-verdict : Bool → Verdict
foreign-verdict true = Ignored Running
foreign-verdict false = Ignored (Foreign I2c)

verdict-foreign : (M : ℕ) (running : Bool) (own : Address) (a : ℕ) (f : List ℕ) → 128 ≤ a
    → verdict I2c M running own a f ≡ foreign-verdict running
unfolding verdict framing foreign-verdict
verdict-foreign M true own a f h = rw (ne_eqb a 0 (λ e. omega arith))
verdict-foreign M false own a f h = rw (ne_eqb a 0 (λ e. omega arith), addressed-foreign own a h)

handled-foreign : (p : Profile) (s : State) (a b : ℕ) (f d : List ℕ) (running : Bool)
    → handled p s a f d (foreign-verdict running) ≡ handled p s b f d (foreign-verdict running)
unfolding handled foreign-verdict
handled-foreign p s a b f d true = refl
handled-foreign p s a b f d false = refl

-- on RS485

handled_rs485 : (p : Profile) (s : State) (a b : ℕ) (f d : List ℕ) (v : Verdict) → p.bus ≡ Rs485
    → handled p s a f d v ≡ handled p s b f d v
unfolding handled
handled_rs485 p s a b f d Reset e = refl
handled_rs485 p s a b f d ResetAddress e = refl
handled_rs485 p s a b f d (Ignored reason) e = refl
handled_rs485 p s a b f d BadTransfer e = rw e
handled_rs485 p s a b f d BadSum e = rw e
handled_rs485 p s a b f d Command e = rw e

verdict_rs485 : (M : ℕ) (running : Bool) (own : Address) (a b : ℕ) (f : List ℕ)
    → verdict Rs485 M running own a f ≡ verdict Rs485 M running own b f
unfolding verdict framing
verdict_rs485 M running own a b f = refl

-- both calls

module _ (p : Profile) (s : State) (a b : ℕ) (f d : List ℕ) (ha : 128 ≤ a) (hb : 128 ≤ b) where
  same-verdict : (bus : Bus) → p.bus ≡ bus
      → handled p s a f d (verdict p.bus p.longest s.running s.address a f)
      ≡ handled p s b f d (verdict p.bus p.longest s.running s.address b f)
  same-verdict I2c e =
      let at_a =
      ap (λ (bus : Bus). verdict bus p.longest s.running s.address a f) e
      ∙ verdict-foreign p.longest s.running s.address a f ha in
      let at_b =
      ap (λ (bus : Bus). verdict bus p.longest s.running s.address b f) e
      ∙ verdict-foreign p.longest s.running s.address b f hb in
      ap (handled p s a f d) at_a ∙ handled-foreign p s a b f d s.running ∙ sym (ap (handled p s b f d) at_b)
  same-verdict Rs485 e =
      let at_a = ap (λ (bus : Bus). verdict bus p.longest s.running s.address a f) e in
      let at_b = ap (λ (bus : Bus). verdict bus p.longest s.running s.address b f) e in
      let same = at_a ∙ verdict_rs485 p.longest s.running s.address a b f ∙ sym at_b in
      ap (handled p s a f d) same ∙ handled_rs485 p s a b f d _ e

  received-same : (n : ℕ) → received p s a f d n ≡ received p s b f d n
  unfolding received
  received-same n = rw (same-verdict p.bus refl)

  answered_same : (bus : Bus) → read_answered bus s a ≡ read_answered bus s b
  answered_same I2c = rw (addressed-foreign s.address a ha, addressed-foreign s.address b hb)
  answered_same Rs485 = refl

  read_out-same : (n : ℕ) → read_out p s a d n ≡ read_out p s b d n
  unfolding read_out
  read_out-same n = rw (answered_same p.bus)

-- a clipped address
module _ (p : Profile) (s : State) (a : ℕ) (d : List ℕ) (n : ℕ) where
  pub received-clipped : (f : List ℕ) → received p s (clipped a) f d n ≡ received p s a f d n
  received-clipped f =
      by_test (ltb 255 a)
      (λ e. let foreign : 255 < a = ltb-true 255 a e in rw e (received-same p s 255 a f d (omega arith) (omega arith) n))
      (λ e. rw e)

  pub read_out-clipped : read_out p s (clipped a) d n ≡ read_out p s a d n
  read_out-clipped =
      by_test (ltb 255 a)
      (λ e. let foreign : 255 < a = ltb-true 255 a e in rw e (read_out-same p s 255 a [] d (omega arith) (omega arith) n))
      (λ e. rw e)
