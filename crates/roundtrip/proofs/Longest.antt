-- What the encoder makes of writes and reads by their lengths: a request is refused by 7 where it is longer than M, or its reply would be,
-- and by no other test where its numbers are in range.
use mathlib.Core.Path.{◌≡◌, refl}
use mathlib.Core.Bool.{true, false}
use mathlib.Core.List.{List, [], ◌++◌}
use Prim.Native.Nat.{ℕ, ◌+◌, ◌-◌, ◌≤◌, ◌<◌}
use native.Mathlib.Omega.{arith}
use lib.Dec.{eqb, leb}
use lib.ListN.{length}
use borrow.Author.Tests.{leb-true, le-ltb, lt-ltb, le-leb}
use Rattle.rules.specs.declared.kinds.Bus.{Bus}
use Rattle.rules.specs.declared.kinds.Bus.TheVariants.{I2c, Rs485}
use Rattle.rules.specs.declared.requests.Request.{Request}
use Rattle.rules.specs.declared.requests.Request.TheVariants.{Plain, Write, Read}
use Rattle.rules.specs.Profile.{frame_in_range}
use Rattle.rules.specs.Frames.{shortest_request, shortest_reply, two_bytes}
use Rattle.rules.specs.Commands.{tabled, served, length_allowed}
use Rattle.rules.specs.Master.{address_over, flash_address_over, command_wrong, argument_wrong, request_bytes, encoded}
use Rattle.laws.proofs.TestLaws.{by_test, &&_true}
use Rattle.roundtrip.specs.Longest.{data_most, results_most, Makes, Refuses, LongestMade}

shortest_request_within : (b : Bus) → (2 ≤ shortest_request b) × (shortest_request b ≤ 4)
shortest_request_within I2c = (omega arith, omega arith)
shortest_request_within Rs485 = (omega arith, omega arith)

module _ (bus : Bus) (M to : ℕ) (range : frame_in_range M ≡ true) (some : eqb to 0 ≡ false) (within : address_over bus to ≡ false) where
  least : 32 ≤ M
  least = leb-true 32 M (&&_true (leb 32 M) (leb M 256) range).0

  most : M ≤ 256
  most = leb-true M 256 (&&_true (leb 32 M) (leb M 256) range).1

  -- no test stands against a request, or the one of number 7 does
  makes : (r : Request) (bytes : List ℕ) → argument_wrong bus M r to bytes ≡ false → Makes bus M r to bytes
  unfolding encoded
  makes r bytes right room fits = rw (range, right, le-ltb room (length (request_bytes bus r to bytes)) fits)

  refuses : (r : Request) (bytes : List ℕ) → argument_wrong bus M r to bytes ≡ true → Refuses bus M r to bytes
  unfolding encoded
  refuses r bytes wrong room = rw (range, wrong)

  -- a command with n argument bytes
  command_right : (code n : ℕ) → served code ≡ true → length_allowed code n ≡ true → shortest_request bus + n ≤ M
      → command_wrong bus M to code n ≡ false
  unfolding command_wrong
  command_right code n row long fits = rw (row, long, le-ltb M (shortest_request bus + n) fits, some, within)

  command_long : (code n : ℕ) → M < shortest_request bus + n → command_wrong bus M to code n ≡ true
  unfolding command_wrong
  command_long code n long =
      by_test (served code)
      (λ row. by_test (length_allowed code n) (λ e. rw (row, e, lt-ltb M (shortest_request bus + n) long)) (λ e. rw (row, e)))
      (λ row. rw row)

  module _ (at : ℕ) (address : flash_address_over at ≡ false) where
    pub write_makes : (bytes : List ℕ) → length bytes ≤ data_most bus M → Makes bus M (Write at) to bytes
    unfolding argument_wrong tabled
    write_makes bytes few =
        let n : ℕ = length (two_bytes at ++ bytes) in
        let bounds = shortest_request_within bus in
        let fits : shortest_request bus + n ≤ M = omega (arith, bounds.0, bounds.1, least) in
        let allowed : length_allowed 0x06 n ≡ true = rw (le-leb 2 n (omega arith), le-leb n 254 (omega (arith, bounds.0, most))) in
        makes (Write at) bytes (rw (command_right 0x06 n refl allowed fits, address))

    write_refuses : (bytes : List ℕ) → data_most bus M < length bytes → Refuses bus M (Write at) to bytes
    unfolding argument_wrong
    write_refuses bytes many =
        let n : ℕ = length (two_bytes at ++ bytes) in
        refuses (Write at) bytes (rw (command_long 0x06 n (omega arith)))

    read_right : command_wrong bus M to 0x08 3 ≡ false
    unfolding tabled
    read_right = command_right 0x08 3 refl refl (omega (arith, (shortest_request_within bus).1, least))

    pub read_makes : (n : ℕ) → n ≤ results_most bus M → Makes bus M (Read at n) to []
    unfolding argument_wrong
    read_makes n few = makes (Read at n) [] (rw (read_right, address, le-ltb (M - shortest_reply bus) n few))

    read_refuses : (n : ℕ) → results_most bus M < n → Refuses bus M (Read at n) to []
    unfolding argument_wrong
    read_refuses n many = refuses (Read at n) [] (rw (read_right, address, lt-ltb (M - shortest_reply bus) n many))

  -- a command without arguments
  pub plain_makes : (code : ℕ) → served code ≡ true → length_allowed code 0 ≡ true → Makes bus M (Plain code) to []
  unfolding argument_wrong
  plain_makes code row allowed =
      makes (Plain code) [] (rw (command_right code 0 row allowed (omega (arith, (shortest_request_within bus).1, least))))

pub longest_made : LongestMade
longest_made bus M at to range address some within = record {
  write_made = write_makes bus M to range some within at address;
  write_refused = write_refuses bus M to range some within at address;
  read_made = read_makes bus M to range some within at address;
  read_refused = read_refuses bus M to range some within at address;
}
