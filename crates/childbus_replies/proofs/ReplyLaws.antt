-- From what the decoder and the version rule promise to what their calls of the boundary do.
use Rattle.std.specs.Prelude.{Err, Option, Some, None}
use mathlib.Core.Path.{◌≡◌, refl, sym, ap, ◌∙◌}
use mathlib.Core.Bool.{cond}
use mathlib.Core.List.{List}
use Prim.Native.Nat.{ℕ}
use lib.Dec.{eqb}
use borrow.Author.Tests.{le-ltb}
use Rattle.rules.specs.declared.kinds.Bus.{Bus}
use Rattle.rules.specs.declared.requests.Decoded.{Decoded}
use Rattle.rules.specs.declared.requests.Decoded.TheVariants.{Reply, NotServed, TooShort, SumWrong, OtherAddress, LengthWrong}
use Rattle.rules.specs.declared.requests.Decoded.TheVariants.{StatusUnknown, ResultsMissing}
use Rattle.rules.specs.declared.requests.VersionError.{VersionError}
use Rattle.rules.specs.declared.requests.VersionError.TheVariants.{ApplicationRunning, Unknown}
use Rattle.rules.specs.Master.{Decoding, unread, decoded_as, decoded, decoded_read, results_in}
use Rattle.rules.specs.Master.{result_bytes, which_read, Ruled, ruled_as, version_rule}
use Rattle.laws.proofs.TestLaws.{by_test}
use Rattle.decoder.specs.Calls.{Decodes}
use Rattle.fields.specs.Fields.{clipped}
use Rattle.fields.proofs.Clipping.{version_rule-clipped}
use Rattle.rules.specs.Buses.{bus_number}
use Rattle.profile_bytes.proofs.BusLaws.{number_most, bus_of_number}
use Rattle.childbus_replies.specs.ReplyBytes.{decoded_left, results_at, ReadsLeft, chosen_read, reads_left}

-- the decoder, on a bus that there is

-- a refusal has no values
unread-refusal : (d : Decoded) → ((status start len : ℕ) → d ≡ Reply status start len → ⊥) → decoded_as d ≡ unread (decoded_as d).number
unread-refusal (Reply status start len) h = absurd (h status start len refl)
unread-refusal NotServed h = refl
unread-refusal TooShort h = refl
unread-refusal SumWrong h = refl
unread-refusal OtherAddress h = refl
unread-refusal LengthWrong h = refl
unread-refusal StatusUnknown h = refl
unread-refusal ResultsMissing h = refl

module _ (bus code address asked : ℕ) (reply : List ℕ) (b : Bus) {answer : Decoded} (numbered : bus_number b ≡ bus)
    (e : Decodes answer (decoded b code address asked reply) reply) where
  decoded_as_lem : decoded_as answer ≡ decoded_left bus code address asked reply
  unfolding decoded_left
  decoded_as_lem = rw (le-ltb 1 bus (number_most b numbered), ← bus_of_number b numbered) e.answer_is

  pub decoded-refusal : {n : ℕ} → ((status start len : ℕ) → answer ≡ Reply status start len → ⊥) → n ≡ (decoded_as answer).number
      → unread n ≡ decoded_left bus code address asked reply
  decoded-refusal h n-is = rw n-is (sym (unread-refusal answer h) ∙ decoded_as_lem)

  pub decoded-reply : {status start len : ℕ} → answer ≡ Reply status start len
      → ◌≡◌ {A = Decoding} (record { number = 0; status = status; start = start; len = len }) (decoded_left bus code address asked reply)
  decoded-reply q = sym (ap decoded_as q) ∙ decoded_as_lem

-- the results of two reads are those of the rules
pub chosen_results : (code asked : ℕ) (first second : List ℕ)
    → results_in (chosen_read code asked first second) (cond (eqb (which_read code asked first second) 1) first second)
    ≡ result_bytes code asked first second
unfolding chosen_read which_read result_bytes
chosen_results code asked first second =
    by_test (eqb (decoded_read code asked first).number 0)
    (λ e. rw e)
    (λ e. by_test (eqb (decoded_read code asked second).number 0) (λ g. rw (e, g)) (λ g. rw (e, g)))

-- what two reads leave, by where the results of each lie
abbrev pub placed : Option (ℕ × ℕ) → Option (ℕ × ℕ) → ReadsLeft
placed (Some (start, len)) second = record { which = 1; start = start; len = len }
placed None (Some (start, len)) = record { which = 2; start = start; len = len }
placed None None = record { which = 0; start = 0; len = 0 }

pub reads_placed : (code asked : ℕ) (first second : List ℕ) {p q : Option (ℕ × ℕ)}
    → p ≡ results_at (decoded_read code asked first)
    → q ≡ results_at (decoded_read code asked second)
    → placed p q ≡ reads_left code asked first second
unfolding results_at chosen_read which_read
reads_placed code asked first second p-is q-is =
    rw (p-is, q-is)
    (by_test (eqb (decoded_read code asked first).number 0)
    (λ e. rw e)
    (λ e. by_test (eqb (decoded_read code asked second).number 0) (λ g. rw (e, g)) (λ g. rw (e, g))))

-- the version rule at clipped numbers

pub version_left : (major minor : ℕ) {a b : ℕ} {r : Ruled} → a ≡ clipped major → b ≡ clipped minor → r ≡ version_rule a b
    → r ≡ version_rule major minor
version_left major minor {b = b} a-is b-is e =
    e ∙ ap (λ (x : ℕ). version_rule x b) a-is ∙ ap (version_rule (clipped major)) b-is ∙ version_rule-clipped major minor

-- an answer that names no version has no values
pub version_unnamed : (v : VersionError) {n : ℕ} → n ≡ (ruled_as (Err v)).number
    → record { number = n; major = 0; minor = 0 } ≡ ruled_as (Err v)
version_unnamed ApplicationRunning e = rw e
version_unnamed Unknown e = rw e
