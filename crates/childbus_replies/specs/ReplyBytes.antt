-- The master's replies over bytes: number and single results, for any numbers of 32 bits and any bytes of any length.
use Rattle.std.specs.Prelude.{◌≡◌, cond, List, ℕ, eqb, ltb, Option, Some, None}
use Rattle.rules.specs.Master.{Decoding, unread, decoded, decoded_read, results_in, result_bytes, which_read}
use Rattle.profile_bytes.specs.ProfileBytes.{bus_of}

-- childbus_decode: a bus above 1 is number 7

unfoldable pub decoded_left : ℕ → ℕ → ℕ → ℕ → List ℕ → Decoding
decoded_left bus code address asked reply = cond (ltb 1 bus) (unread 7) (decoded (bus_of bus) code address asked reply)

-- childbus_two_reads

pub record ReadsLeft : Type 0 where
  pub which : ℕ
  pub start : ℕ
  pub len : ℕ

-- where the results of a read lie, if it decodes: from a place on, and how many
unfoldable pub results_at : Decoding → Option (ℕ × ℕ)
results_at d = cond (eqb d.number 0) (Some (d.start, d.len)) None

-- the first read if that one decodes, else the second; no results if neither does
unfoldable pub chosen_read : ℕ → ℕ → List ℕ → List ℕ → Decoding
chosen_read code asked first second =
    cond (eqb (decoded_read code asked first).number 0) (decoded_read code asked first)
    (cond (eqb (decoded_read code asked second).number 0) (decoded_read code asked second) (unread 0))

abbrev pub reads_left : ℕ → ℕ → List ℕ → List ℕ → ReadsLeft
reads_left code asked first second = record {
  which = which_read code asked first second;
  start = (chosen_read code asked first second).start;
  len = (chosen_read code asked first second).len;
}

-- these are the result bytes that the rules give, in the read that the answer names
pub record ReadsAgree : Type 0 where
  pub results : (code asked : ℕ) (first second : List ℕ)
      → results_in (chosen_read code asked first second) (cond (eqb (which_read code asked first second) 1) first second)
      ≡ result_bytes code asked first second
