-- Boards that are right but for one error, each with the sentence of document 01 that names it.
-- Which demand refuses each: src/lib.rt. On which calls: proofs/.
use Rattle.std.specs.Prelude.{Bool, true, cond, not, ◌&&◌, ◌||◌, List, [], ◌∷◌, ◌++◌, ℕ, suc, ◌+◌, ◌-◌, ◌%◌, eqb, ltb, length, take}
use Rattle.std.specs.Prelude.{set, get_or, replicate}
use Rattle.rules.specs.declared.kinds.Bus.{Bus}
use Rattle.rules.specs.declared.kinds.Bus.TheVariants.{Rs485}
use Rattle.rules.specs.declared.kinds.Address.TheVariants.{Own}
use Rattle.rules.specs.declared.kinds.Reason.{Reason}
use Rattle.rules.specs.declared.kinds.Reason.TheVariants.{Running, Short, Long, WrongSum, Foreign, OtherGeneral}
use Rattle.rules.specs.declared.kinds.Verdict.TheVariants.{Reset, ResetAddress, Ignored, BadTransfer, BadSum, Command}
use Rattle.rules.specs.Profile.{Profile}
use Rattle.rules.specs.State.{State, Upload, fresh, with_address, with_running, with_upload}
use Rattle.rules.specs.Numbers.{ignored_number}
use Rattle.rules.specs.CheckSums.{sum_right}
use Rattle.rules.specs.Frames.{destination, ignored, is_command, command_of, arguments_of, number_at, two_bytes}
use Rattle.rules.specs.Commit.{Progress, committed, finalized}
use Rattle.rules.specs.Responses.{Reply, NoReply, Acted, ok, invalid_arguments, invalid_crc, replying}
use Rattle.rules.specs.Commands.{address_taken, reserved, type_matches, started, executed}
use Rattle.rules.specs.Board.{finished_call, refused, handled}
use Rattle.ledger.specs.Calls.{Call, Frame, Read, Reaction, Board, calls}
use Rattle.wrongboards.specs.Variations.{Handling, handling_by, board_by, ruled_by, committed_by, asks}

-- Document 01, "Programs to try"

-- "a board that refuses all writes"
abbrev pub refuses_writes : Board
refuses_writes = ruled_by (λ p s code args d. cond (eqb code 0x06) (replying s d invalid_arguments []) (executed p s code args d))

-- "or says OK to all": a write that the rules refuse gets OK, and nothing is done
abbrev pub ok_to_all : Board
ok_to_all =
    ruled_by (λ p s code args d.
    let a : Acted = executed p s code args d in
    cond (eqb code 0x06) (record { response = Reply ok []; state = a.state; flash = a.flash }) a)

-- a board that calls itself running after its first write, and so answers nothing more
abbrev pub runs_after_write : Board
runs_after_write =
    ruled_by (λ p s code args d.
    let a : Acted = executed p s code args d in
    cond (eqb code 0x06) (record { response = a.response; state = with_running a.state true; flash = a.flash }) a)

-- "one that keeps flash as it was"
abbrev pub keeps_flash : Board
keeps_flash = committed_by (λ p g. record { upload = (committed p g).upload; flash = g.flash })

-- commits no page but the first and still replies OK
abbrev pub first_page_only : Board
first_page_only =
    committed_by (λ p g.
    cond (ltb (g.upload.next - length g.upload.waiting) p.page) (committed p g)
    (record { upload = record { next = g.upload.next; waiting = []; count = g.upload.count }; flash = g.flash }))

-- "one that invents its erase count": finalize says one more than was counted
abbrev pub invents_count : Board
invents_count =
    ruled_by (λ p s code args d.
    let a : Acted = executed p s code args d in
    cond (eqb code 0x07 && eqb (length args) 0)
    (record { response = Reply ok (two_bytes (suc a.state.upload.count)); state = a.state; flash = a.flash })
    a)

-- "A fixed reply": these bytes, whatever is asked
abbrev pub fixed_reply : List ℕ → Board
fixed_reply bytes =
    board_by (λ p s d c.
    let r : Reaction State = calls p s d c in
    record { number = r.number; reply = cond (eqb r.number 0) bytes []; state = r.state; flash = r.flash })

-- Document 01, "Errors our trainees have coded"

-- "Padding the last page with 0xFF": the waiting bytes are filled up to the end of their page
abbrev pub padded : ℕ → Upload → Upload
padded page u = record {
  next = u.next + (page - u.next % page) % page;
  waiting = u.waiting ++ replicate ((page - u.next % page) % page) 0xFF;
  count = u.count;
}

abbrev pub pads_last_page : Board
pads_last_page =
    committed_by (λ p g.
    let h : Progress = committed p (record { upload = padded p.page g.upload; flash = g.flash }) in
    record { upload = record { next = g.upload.next; waiting = []; count = h.upload.count }; flash = h.flash })

-- half of a write past S is taken: the bytes before S, and then the write is refused
abbrev pub takes_half : Board
takes_half =
    ruled_by (λ p s code args d.
    let half : Acted = executed p s code (take (2 + (p.size - number_at args 0)) args) d in
    cond (eqb code 0x06 && ltb p.size (number_at args 0 + (length args - 2)))
    (record { response = Reply invalid_arguments []; state = half.state; flash = half.flash })
    (executed p s code args d))

-- "Sending INVALID_CRC on RS485": to a frame that is to be ignored and has a wrong check sum
abbrev pub invalid_crc_handling : Handling
invalid_crc_handling p s a f d v =
    cond (ignored v && not (sum_right p.bus f)) (finished_call p.bus (destination p.bus a f) (replying s d invalid_crc []))
    (handled p s a f d v)

abbrev pub invalid_crc_sent : Board
invalid_crc_sent = board_by (handling_by invalid_crc_handling)

-- "Counting a commit that changed nothing"
abbrev pub counts_unchanged : Board
counts_unchanged =
    committed_by (λ p g.
    record { upload = record { next = g.upload.next; waiting = []; count = suc g.upload.count }; flash = (committed p g).flash })

-- "Finalizing on start"
abbrev pub finalizes_on_start : Board
finalizes_on_start =
    ruled_by (λ p s code args d.
    let g : Progress = finalized p (record { upload = s.upload; flash = d }) in
    cond (eqb code 0x05 && eqb (length args) 0) (started (with_upload s g.upload) g.flash) (executed p s code args d))

-- Further errors, each against a clause of the demands

-- one that refuses every finalize
abbrev pub refuses_finalizes : Board
refuses_finalizes = ruled_by (λ p s code args d. cond (eqb code 0x07) (replying s d invalid_arguments []) (executed p s code args d))

-- one whose answers to a command are changed, byte by byte
abbrev pub changes_reply : ℕ → (List ℕ → List ℕ) → Board
changes_reply code change =
    board_by (λ p s d c.
    let r : Reaction State = calls p s d c in
    record { number = r.number; reply = cond (asks p c code) (change r.reply) r.reply; state = r.state; flash = r.flash })

-- one whose I²C reads always answer this number, with the last reply changed
abbrev pub reads_by : ℕ → (List ℕ → List ℕ) → Profile → State → List ℕ → Call → Reaction State
reads_by number change p s d (Frame a f n) = calls p s d (Frame a f n)
reads_by number change p s d (Read a n) = record { number = number; reply = change s.last; state = s; flash = d }

abbrev pub reads_as : ℕ → (List ℕ → List ℕ) → Board
reads_as number change = board_by (reads_by number change)

-- one that obeys foreign writes and finalizes: a frame that is to be ignored is executed if its check sum is right
abbrev pub obeys_foreign : Board
obeys_foreign =
    board_by (handling_by (λ p s a f d v.
    cond (ignored v && sum_right p.bus f)
    (finished_call p.bus (destination p.bus a f) (executed p s (command_of p.bus f) (arguments_of p.bus f) d))
    (handled p s a f d v)))

-- one that ignores start
abbrev pub ignores_start : Board
ignores_start =
    ruled_by (λ p s code args d.
    cond (eqb code 0x05 && eqb (length args) 0) (record { response = NoReply; state = s; flash = d }) (executed p s code args d))

-- one that takes an address from set address with a foreign type
abbrev pub takes_foreign_type : Board
takes_foreign_type =
    ruled_by (λ p s code args d.
    cond (eqb code 0x01 && eqb (length args) 2) (executed p s code (get_or args 0 0 ∷ p.hardware ∷ []) d) (executed p s code args d))

-- one that never sends INVALID_CRC or INVALID_TRANSFER on I²C
abbrev pub silent_faults : Board
silent_faults =
    board_by (handling_by (λ p s a f d v.
    cond (ignored v || is_command v) (handled p s a f d v)
    (record { number = 1; reply = []; state = (handled p s a f d v).state; flash = d })))

-- one with a wrong answer to a command: OK and one result of 0xEE
abbrev pub answers_wrong : ℕ → Board
answers_wrong asked = ruled_by (λ p s code args d. cond (eqb code asked) (replying s d ok (0xEE ∷ [])) (executed p s code args d))

-- one whose refused calls erase flash
abbrev pub refused_erases : Board
refused_erases =
    board_by (λ p s d c.
    let r : Reaction State = calls p s d c in
    record { number = r.number; reply = r.reply; state = r.state; flash = cond (ltb 1 r.number) [] r.flash })

-- one whose reads erase flash
abbrev pub erasing_reads : Profile → State → List ℕ → Call → Reaction State
erasing_reads p s d (Frame a f n) = calls p s d (Frame a f n)
erasing_reads p s d (Read a n) =
    let r : Reaction State = calls p s d (Read a n) in
    record { number = r.number; reply = r.reply; state = r.state; flash = [] }

abbrev pub reads_erase : Board
reads_erase = board_by erasing_reads

-- one that changes flash at a command
abbrev pub changes_flash : ℕ → (Profile → List ℕ → List ℕ) → Board
changes_flash code change =
    board_by (λ p s d c.
    let r : Reaction State = calls p s d c in
    record { number = r.number; reply = r.reply; state = r.state; flash = cond (asks p c code) (change p r.flash) r.flash })

-- its finalize writes the byte behind the working flash
abbrev pub writes_outside : Board
writes_outside = changes_flash 0x07 (λ p d. set d (p.offset + p.size) 1)

-- one byte more flash after a command
abbrev pub grows_flash : ℕ → Board
grows_flash code = changes_flash code (λ p d. d ++ 0 ∷ [])

-- one that erases flash while it is running
abbrev pub erases_running : Board
erases_running =
    board_by (λ p s d c.
    let r : Reaction State = calls p s d c in
    record { number = r.number; reply = r.reply; state = r.state; flash = cond s.running [] r.flash })

-- one that shows another count than its state has
abbrev pub shows_count : (State → ℕ) → Board
shows_count count = record { Kept = State; fresh = fresh; count = count; call = calls }

-- one that counts writes, refused ones too
abbrev pub counts_writes : Board
counts_writes =
    ruled_by (λ p s code args d.
    let a : Acted = executed p s code args d in
    let u : Upload = a.state.upload in
    let counted : Upload = record { next = u.next; waiting = u.waiting; count = suc u.count } in
    cond (eqb code 0x06) (record { response = a.response; state = with_upload a.state counted; flash = a.flash }) a)

-- W1, set address

-- one that refuses other addresses than the reserved, by a test of the address as it was sent
abbrev pub refuses_addresses : (Bus → ℕ → Bool) → Board
refuses_addresses test =
    ruled_by (λ p s code args d.
    cond (eqb code 0x01 && (eqb (length args) 2 && type_matches p (get_or args 1 0)))
    (cond (test p.bus (get_or args 0 0)) (replying s d invalid_arguments [])
    (replying (with_address s (Own (address_taken p.bus (get_or args 0 0)))) d ok []))
    (executed p s code args d))

-- one that takes the address with its top bit
abbrev pub keeps_top_bit : Board
keeps_top_bit =
    ruled_by (λ p s code args d.
    let a : Acted = executed p s code args d in
    let moved : State = with_address a.state (Own (get_or args 0 0)) in
    cond (eqb code 0x01 && not (reserved p.bus (address_taken p.bus (get_or args 0 0))))
    (record { response = a.response; state = moved; flash = a.flash })
    a)

-- one that tests the address before the type
abbrev pub refuses_foreign_type : Board
refuses_foreign_type =
    ruled_by (λ p s code args d.
    cond (eqb code 0x01 && (eqb (length args) 2 && reserved p.bus (address_taken p.bus (get_or args 0 0))))
    (replying s d invalid_arguments [])
    (executed p s code args d))

-- one that refuses a reserved address and takes it
abbrev pub refuses_and_moves : Board
refuses_and_moves =
    ruled_by (λ p s code args d.
    let a : Acted = executed p s code args d in
    let moved : State = with_address a.state (Own (address_taken p.bus (get_or args 0 0))) in
    cond (eqb code 0x01 && eqb (length args) 2) (record { response = a.response; state = moved; flash = a.flash }) a)

-- W3, why a frame got no reply

-- one that numbers ignored frames by another rule, of the frame and the reason
abbrev pub numbering : (List ℕ → Reason → ℕ) → Handling
numbering rule p s a f d Reset = handled p s a f d Reset
numbering rule p s a f d ResetAddress = handled p s a f d ResetAddress
numbering rule p s a f d (Ignored reason) = refused (rule f reason) s d
numbering rule p s a f d BadTransfer = handled p s a f d BadTransfer
numbering rule p s a f d BadSum = handled p s a f d BadSum
numbering rule p s a f d Command = handled p s a f d Command

abbrev pub numbers_ignored : (List ℕ → Reason → ℕ) → Board
numbers_ignored rule = board_by (handling_by (numbering rule))

-- the rules' numbers, but a short or a long frame with a wrong CRC is 17
abbrev pub sum_first : List ℕ → Reason → ℕ
sum_first f Running = 1
sum_first f Short = cond (sum_right Rs485 f) 15 17
sum_first f Long = cond (sum_right Rs485 f) 16 17
sum_first f WrongSum = 17
sum_first f (Foreign bus) = ignored_number (Foreign bus)
sum_first f OtherGeneral = 1

-- the rules' numbers, but for a running board's silence and for another general call
abbrev pub numbered_so : ℕ → ℕ → List ℕ → Reason → ℕ
numbered_so running general f Running = running
numbered_so running general f Short = 15
numbered_so running general f Long = 16
numbered_so running general f WrongSum = 17
numbered_so running general f (Foreign bus) = ignored_number (Foreign bus)
numbered_so running general f OtherGeneral = general

-- W8, pages of 128 bytes

-- one that answers 4 where more than 63 bytes wait
abbrev pub holds63 : Board
holds63 =
    board_by (λ p s d c.
    cond (ltb 63 (length s.upload.waiting)) (record { number = 4; reply = []; state = s; flash = d }) (calls p s d c))
