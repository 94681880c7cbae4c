-- What the board answers is what the master reads.
use Rattle.std.specs.Prelude.{◌≡◌, true, cond, List, [], ◌∷◌, ◌++◌, ℕ, ◌+◌, ◌≤◌, eqb, length, drop}
use Rattle.rules.specs.declared.kinds.Bus.{Bus}
use Rattle.rules.specs.declared.kinds.Bus.TheVariants.{I2c}
use Rattle.rules.specs.Frames.{header_length, addressed}
use Rattle.rules.specs.Responses.{Response, Reply, NoReply}
use Rattle.rules.specs.Commands.{performed}
use Rattle.rules.specs.Board.{read_out}
use Rattle.rules.specs.Master.{Instruction, Commands, AddressReset, BoardReset, decoded, decoded_read, results_in, result_bytes, which_read}
use Rattle.roundtrip.specs.Sending.{Sending, Given, bus, call, instruction}

-- a reply decodes, with the command, address and read length that were sent, to this status with these results
pub record ReadsAs (bus : Bus) (code address asked : ℕ) (reply : List ℕ) (status : ℕ) (results : List ℕ) : Type 0 where
  pub decoding_is : decoded bus code address asked reply
      ≡ record { number = 0; status = status; start = header_length bus + 2; len = length results }
  pub results_are : results_in (decoded bus code address asked reply) reply ≡ results

-- of two reads, this one counts, and gives these results
pub record TwoReads (code asked : ℕ) (first second : List ℕ) (which : ℕ) (results : List ℕ) : Type 0 where
  pub which_is : which_read code asked first second ≡ which
  pub results_are : result_bytes code asked first second ≡ results

-- where a board that replied is addressed next: at the destination as before, after set address at the new address
abbrev pub addressed_next : ℕ → ℕ → List ℕ → ℕ
addressed_next to code [] = to
addressed_next to code (a ∷ arguments) = cond (eqb code 0x01) a to

-- a reply on I²C, which the master gets by reads; its read may be longer than the reply
pub record ReadOut (x : Sending) (code asked status : ℕ) (results : List ℕ) : Type 0 where
  -- a read at an address that the board has afterwards gives the reply and changes nothing
  pub read :
      (address buffer : ℕ) → addressed I2c (call x).state.address address ≡ true → x.profile.longest ≤ buffer
      → read_out x.profile (call x).state address (call x).flash buffer ≡ call x
  pub longer : (more : List ℕ) → ReadsAs I2c code x.to asked ((call x).reply ++ more) status results
  -- two reads: a first that is whole counts; a second that is whole counts where the first is damaged
  pub first_whole : (more second : List ℕ) → TwoReads code asked ((call x).reply ++ more) second 1 results
  pub second_whole :
      (first more : List ℕ) → ((decoded_read code asked first).number ≡ 0 → ⊥) → TwoReads code asked first ((call x).reply ++ more) 2 results

-- the master reads the status and the results that the command said
pub record Answered (x : Sending) (code : ℕ) (arguments : List ℕ) (asked status : ℕ) (results : List ℕ) : Type 0 where
  pub number_is : (call x).number ≡ 0
  pub reads : ReadsAs (bus x) code x.to asked (call x).reply status results
  pub read_out_holds : bus x ≡ I2c → ReadOut x code asked status results
  -- there is an address to read at
  pub next_addressed : addressed (bus x) (call x).state.address (addressed_next x.to code arguments) ≡ true

-- by the command's response: a reply that is read, or nothing to send
abbrev pub ResponseRead : Sending → ℕ → List ℕ → ℕ → Response → Type 0
ResponseRead x code arguments asked (Reply status results) = Answered x code arguments asked status results
ResponseRead x code arguments asked NoReply = (call x).number ≡ 1

-- the decoder gets the length that a read asks for
abbrev pub Replied : Sending → Instruction → Type 0
Replied x (Commands code arguments) =
    (asked : ℕ) → (code ≡ 0x08 → drop 2 arguments ≡ asked ∷ [])
    → ResponseRead x code arguments asked (performed x.profile x.state code arguments x.flash).response
Replied x AddressReset = (call x).number ≡ 1
Replied x BoardReset = (call x).number ≡ 1

-- every reply to such a request decodes to exactly the status and results that the board's rule says, and never to a refusal
abbrev pub RepliesRead : Type 0
RepliesRead = (x : Sending) → Given x → Replied x (instruction x)
