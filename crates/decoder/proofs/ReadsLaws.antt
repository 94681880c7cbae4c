-- The decoder's answer taken apart: what its promise says where it is a reply, and where it is a refusal.
use mathlib.Core.Path.{◌≡◌, refl, sym, ap, ◌∙◌}
use mathlib.Core.Bool.{false}
use mathlib.Core.List.{List}
use Prim.Native.Nat.{ℕ, ◌+◌, ◌-◌, ◌≤◌}
use native.Mathlib.Omega.{arith}
use lib.Dec.{eqb}
use lib.ListN.{length, take, drop}
use Rattle.rules.specs.declared.requests.Decoded.{Decoded}
use Rattle.rules.specs.declared.requests.Decoded.TheVariants.{Reply, NotServed, TooShort, SumWrong, OtherAddress, LengthWrong}
use Rattle.rules.specs.declared.requests.Decoded.TheVariants.{StatusUnknown, ResultsMissing}
use Rattle.rules.specs.Master.{Decoding, decoded_as, results_in}
use Rattle.decoder.specs.Calls.{Decodes}

-- a refusal has another number than 0
refused : (d : Decoded) → ((status start len : ℕ) → d ≡ Reply status start len → ⊥) → eqb (decoded_as d).number 0 ≡ false
refused (Reply status start len) h = absurd (h status start len refl)
refused NotServed h = refl
refused TooShort h = refl
refused SumWrong h = refl
refused OtherAddress h = refl
refused LengthWrong h = refl
refused StatusUnknown h = refl
refused ResultsMissing h = refl

module _ {answer : Decoded} {d : Decoding} {reply : List ℕ} (e : Decodes answer d reply) where
  pub decodes_refused : ((status start len : ℕ) → answer ≡ Reply status start len → ⊥) → eqb d.number 0 ≡ false
  decodes_refused h = rw (← e.answer_is) (refused answer h)

  module _ {status start len : ℕ} (q : answer ≡ Reply status start len) where
    pub decodes_reply : d ≡ record { number = 0; status = status; start = start; len = len }
    decodes_reply = sym e.answer_is ∙ ap decoded_as q

    pub reply_within : start + len ≤ length reply
    reply_within = rw decodes_reply at e.within

    -- the part that the code takes is the results
    pub part-results : take (start + len - start) (drop start reply) ≡ results_in d reply
    part-results =
        let long : start + len - start ≡ len = omega arith in
        rw (long, decodes_reply)
