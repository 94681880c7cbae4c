-- The encoder makes these requests, by `Longest`: writes of allowed lengths, commands without arguments, and reads of allowed lengths, to
-- an address that the board has.
use mathlib.Core.Path.{◌≡◌}
use mathlib.Core.Bool.{true, false, not, ◌&&◌}
use mathlib.Core.List.{List, [], ◌∷◌, ◌++◌}
use Prim.Native.Nat.{ℕ, ◌≤◌}
use native.Mathlib.Omega.{arith}
use lib.Dec.{eqb, ltb}
use lib.ListN.{length}
use borrow.Author.Tests.{ltb-true, le-ltb, le-leb}
use Rattle.rules.specs.declared.kinds.Bus.{Bus}
use Rattle.rules.specs.declared.kinds.Bus.TheVariants.{I2c, Rs485}
use Rattle.rules.specs.declared.kinds.Address.{Address}
use Rattle.rules.specs.declared.requests.Request.TheVariants.{Plain, Write, Read}
use Rattle.rules.specs.Profile.{frame_in_range}
use Rattle.rules.specs.Frames.{two_bytes, answers_to, addressed}
use Rattle.rules.specs.Commands.{served, length_allowed}
use Rattle.rules.specs.Numbers.{Unrefused}
use Rattle.rules.specs.Master.{address_over, request_bytes}
use Rattle.laws.proofs.TestLaws.{&&_true}
use Rattle.laws.proofs.StateLaws.{refusal_unrefused, unrefused_profile}
use Rattle.laws.proofs.FrameLaws.{length-request, addressed_address, shortest_request-le}
use Rattle.roundtrip.specs.Sending.{encoding}
use Rattle.roundtrip.specs.Exchanges.{Line, Board, Ready, sending}
use Rattle.roundtrip.specs.Longest.{data_most, results_most}
use Rattle.roundtrip.proofs.Longest.{write_makes, read_makes, plain_makes}

-- an address of the board, and a byte, is one of the bus
addressed_within : (b : Bus) (own : Address) (a : ℕ) → addressed b own a ≡ true → a ≤ 255 → address_over b a ≡ false
unfolding addressed
addressed_within I2c own a e byte =
    let fits = (&&_true (not (eqb a 0)) (ltb a 128 && answers_to own a) e).1 in
    le-ltb 127 a (omega (arith, ltb-true a 128 (&&_true (ltb a 128) (answers_to own a) fits).0))
addressed_within Rs485 own a e byte = le-ltb 255 a byte

module _ (l : Line) (b : Board) (ready : Ready l b) where
  unrefused : Unrefused l.profile b.state (length b.flash) l.buffer
  unrefused = refusal_unrefused l.profile b.state (length b.flash) l.buffer ready.none_refused

  abbrev bus : Bus
  bus = l.profile.bus

  abbrev M : ℕ
  M = l.profile.longest

  range : frame_in_range M ≡ true
  range = rw (le-leb 32 M (unrefused_profile unrefused).longest_least, le-leb M 256 (unrefused_profile unrefused).longest_most)

  some : eqb l.to 0 ≡ false
  some = addressed_address bus b.state.address l.to ready.heard

  within : address_over bus l.to ≡ false
  within = addressed_within bus b.state.address l.to ready.heard ready.byte

  module _ (at : ℕ) (address : at ≤ 65535) where
    pub write_made : (bytes : List ℕ) → length bytes ≤ data_most bus M
        → (encoding (sending l b (record { request = Write at; bytes = bytes }))).number ≡ 0
    unfolding request_bytes
    write_made bytes few =
        write_makes bus M l.to range some within at (le-ltb 65535 at address) bytes few l.buffer
        (omega (
          arith,
          length-request bus l.to 0x06 (two_bytes at ++ bytes),
          shortest_request-le bus,
          (unrefused_profile unrefused).longest_least,
          unrefused.buffer_holds,
        ))

    pub read_made : (n : ℕ) → n ≤ results_most bus M → (encoding (sending l b (record { request = Read at n; bytes = [] }))).number ≡ 0
    unfolding request_bytes
    read_made n few =
        read_makes bus M l.to range some within at (le-ltb 65535 at address) n few l.buffer
        (omega (
          arith,
          length-request bus l.to 0x08 (two_bytes at ++ n ∷ []),
          shortest_request-le bus,
          (unrefused_profile unrefused).longest_least,
          unrefused.buffer_holds,
        ))

  -- a command without arguments
  pub plain_made : (code : ℕ) → served code ≡ true → length_allowed code 0 ≡ true
      → (encoding (sending l b (record { request = Plain code; bytes = [] }))).number ≡ 0
  unfolding request_bytes
  plain_made code row allowed =
      plain_makes bus M l.to range some within code row allowed l.buffer
      (omega (
        arith,
        length-request bus l.to code [],
        shortest_request-le bus,
        (unrefused_profile unrefused).longest_least,
        unrefused.buffer_holds,
      ))
