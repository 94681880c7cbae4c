-- Document 01, "Proved examples", in one table with one statement. E1 to E12, the last three on both buses and at two offsets; the edges
-- that it names as rows 13 to 19; a shorter upload over a longer one as row 20; the edges of the sizes (numbers 2 and 4) as rows 21 to 29;
-- the edges of the reserved addresses (W1) as rows 30 to 34; version 0.0 and its reset (W4) as rows 35 to 37; why a frame got no reply
-- (W3) as rows 38 to 41; pages of 128 bytes (W8) as rows 42 to 48.
use Rattle.std.specs.Prelude.{Bool, true, false, cond, List, [], ◌∷◌, ◌++◌, map, ℕ, ◌+◌, length, take, replicate, get_or}
use Rattle.rules.specs.declared.kinds.Bus.{Bus}
use Rattle.rules.specs.declared.kinds.Bus.TheVariants.{I2c, Rs485}
use Rattle.rules.specs.declared.kinds.Address.TheVariants.{DefaultRange}
use Rattle.rules.specs.declared.requests.Request.TheVariants.{SetAddress}
use Rattle.rules.specs.Bytes.{same}
use Rattle.rules.specs.Profile.{Profile}
use Rattle.rules.specs.State.{State, fresh, with_running}
use Rattle.rules.specs.CheckSums.{sealed}
use Rattle.rules.specs.Numbers.{refusal}
use Rattle.rules.specs.Frames.{header_length, request, reply, reset_frame, reset_address_frame}
use Rattle.rules.specs.Board.{Called, nothing, received}
use Rattle.rules.specs.Master.{Encoding, encoded, version_rule, running_reset}

-- an example: its number, what the definitions give, and what document 01 states
pub record Row : Type 0 where
  pub label : ℕ
  pub given : List ℕ
  pub stated : List ℕ

abbrev pub row : ℕ → List ℕ → List ℕ → Row
row label given stated = record { label = label; given = given; stated = stated }

-- the numbers of the rows whose two sides differ
unfoldable pub disagreeing : List Row → List ℕ
disagreeing [] = []
disagreeing (r ∷ rs) = cond (same r.given r.stated) (disagreeing rs) (r.label ∷ disagreeing rs)

-- a board with a page, on a bus, with M, S, O, a hardware type and a serial
abbrev pub built_of : ℕ → Bus → ℕ → ℕ → ℕ → ℕ → List ℕ → Profile
built_of page bus M S O hardware serial = record {
  bus = bus;
  longest = M;
  page = page;
  size = S;
  offset = O;
  hardware = hardware;
  compatible = 1;
  actual = 1;
  version = 1;
  serial = serial;
}

-- with a page of 64 bytes
abbrev pub built : Bus → ℕ → ℕ → ℕ → ℕ → List ℕ → Profile
built = built_of 64

-- for E10 to E12: S = 128, M = 256, on a bus, with O
abbrev pub example_at : Bus → ℕ → Profile
example_at bus O = built bus 256 128 O 1 []

-- for the edges: on I²C, the working flash at the start of the lent one
abbrev pub example_board : Profile
example_board = example_at I2c 0

-- a lent flash around a working flash: bytes 0x33 before O, and as many 0x44 behind O + S
abbrev pub lent : Profile → List ℕ → List ℕ
lent p working = replicate p.offset 0x33 ++ (working ++ replicate p.offset 0x44)

-- a request to an address, after what a call left
unfoldable pub sent_to : Profile → ℕ → Called → ℕ → List ℕ → Called
sent_to p address c code arguments = received p c.state address (request p.bus address code arguments) c.flash 256

-- n bytes b written at 0
abbrev pub filled : Profile → Called → ℕ → ℕ → Called
filled p c n b = sent_to p 8 c 0x06 (0 ∷ 0 ∷ replicate n b)

-- one byte b written at an address below 256
abbrev pub byte_at : Profile → Called → ℕ → ℕ → Called
byte_at p c address b = sent_to p 8 c 0x06 (0 ∷ address ∷ b ∷ [])

-- a finalize
abbrev pub closed : Profile → Called → Called
closed p c = sent_to p 8 c 0x07 []

-- the fresh board, working flash all 0xFF
abbrev pub blank : Profile → Called
blank p = nothing fresh (lent p (replicate 128 0xFF))

-- a fresh board built so, with flash and reply buffer long enough: 0, or the number that refuses it
abbrev pub refused_as : Profile → ℕ
refused_as p = refusal p fresh (p.offset + p.size) p.longest

-- a state of the example board with so many bytes accepted, w of them waiting, a count, and a last reply of k bytes
abbrev pub state_at : ℕ → ℕ → ℕ → ℕ → State
state_at next w count k = record {
  address = DefaultRange;
  running = false;
  upload = record { next = next; waiting = replicate w 0x11; count = count };
  last = replicate k 0;
}

-- such a state handed to a board
abbrev pub given_to : Profile → State → ℕ
given_to p s = refusal p s 128 256

-- the status of the fresh board's reply to set address, with its own type; 6 for no reply
abbrev pub example_status : Bus → ℕ → ℕ
example_status bus address =
    get_or (sent_to (example_at bus 0) 8 (blank (example_at bus 0)) 0x01 (address ∷ 1 ∷ [])).reply (header_length bus) 6

-- the number of the fresh board's answer to set address, with a type
abbrev pub example_answer : ℕ → ℕ → ℕ
example_answer address hardware = (sent_to example_board 8 (blank example_board) 0x01 (address ∷ hardware ∷ [])).number

-- the number of a set address that is encoded for a bus
abbrev pub example_number : Bus → ℕ → ℕ
example_number bus address = (encoded bus 256 (SetAddress address 1) 8 [] 256).number

-- the number of a version, and what its reset writes, after the number
abbrev pub example_version : ℕ → ℕ → ℕ
example_version major minor = (version_rule major minor).number

abbrev pub numbered : Encoding → List ℕ
numbered e = e.number ∷ e.bytes

-- the number of a frame's answer on RS485, with M = 32, from a board that is running or not
abbrev pub example_silence : Bool → List ℕ → ℕ
example_silence running f = (received (built Rs485 32 128 0 1 []) (with_running fresh running) 0 f (replicate 128 0xFF) 32).number

-- a board with a page, S of two pages: 0, or the number that refuses it
abbrev pub example_page : ℕ → ℕ
example_page page = refused_as (built_of page I2c 256 (page + page) 0 1 [])

-- as the board for the edges, with a page of 128 bytes
abbrev pub gauge_board : Profile
gauge_board = built_of 128 I2c 256 128 0 1 []

-- the erase count that a call left
abbrev pub count_after : Called → ℕ
count_after c = c.state.upload.count

-- how many bytes wait after it
abbrev pub waiting_after : Called → ℕ
waiting_after c = length c.state.upload.waiting

-- E10 to E12 on a board, with the replies to their finalizes, whose counts are 2, 0 and 3
unfoldable pub upload_rows : Profile → List ℕ → List ℕ → List ℕ → List Row
upload_rows p two zero three =
    let written : Called = filled p (blank p) 70 0x11 in
    let finished : Called = closed p written in
    let repeated : Called = closed p (filled p finished 70 0x11) in
    let extended : Called = closed p (byte_at p finished 70 0x22) in
    -- E10: 70 bytes 0x11 from 0 on: count 1, w = 6
    row 10 (count_after written ∷ waiting_after written ∷ []) (1 ∷ 6 ∷ [])
    -- finalize: count 2
    ∷ row 10 (count_after finished ∷ finished.reply) (2 ∷ two)
    -- bytes 70 to 127 still 0xFF, and those outside the working flash as they were
    ∷ row 10 finished.flash (lent p (replicate 70 0x11 ++ replicate 58 0xFF))
    -- E11: the same upload again, count 0
    ∷ row 11 (count_after repeated ∷ repeated.reply) (0 ∷ zero)
    ∷ row 11 repeated.flash (lent p (replicate 70 0x11 ++ replicate 58 0xFF))
    -- E12: E10, then byte 0x22 at 70 and a finalize: count 3
    ∷ row 12 (count_after extended ∷ extended.reply) (3 ∷ three)
    ∷ row 12 extended.flash (lent p (replicate 70 0x11 ++ 0x22 ∷ replicate 57 0xFF))
    ∷ []

-- at O = 0, and with the working flash amid the lent one
abbrev pub offset_rows : Bus → List ℕ → List ℕ → List ℕ → List Row
offset_rows bus two zero three = upload_rows (example_at bus 0) two zero three ++ upload_rows (example_at bus 192) two zero three

-- the edges that the examples name, with S = 64 and M = 32 where that is enough
unfoldable pub edge_rows : List Row
edge_rows =
    let small : Profile = built I2c 256 64 0 1 [] in
    let short : Profile = built I2c 32 128 0 1 [] in
    let start : Called = blank example_board in
    let full : Called = filled small start 64 0x11 in
    let over : Called = filled small start 65 0x11 in
    let finished : Called = closed example_board (filled example_board start 70 0x11) in
    -- write ending at S, and at S + 1
    row 13 (full.state.upload.next ∷ full.reply) (64 ∷ 0x00 ∷ 0x00 ∷ 0xD7 ∷ [])
    ∷ row 14 (over.state.upload.next ∷ over.reply) (0 ∷ 0x05 ∷ 0x00 ∷ 0x96 ∷ [])
    -- empty write at next = S
    ∷ row 15 (sent_to small 8 full 0x06 (0 ∷ 64 ∷ [])).reply (0x00 ∷ 0x00 ∷ 0xD7 ∷ [])
    -- frame of M bytes, and of M + 1 bytes
    ∷ row 16 (filled short start 28 0x11).reply (0x00 ∷ 0x00 ∷ 0xD7 ∷ [])
    ∷ row 17 (filled short start 29 0x11).reply (0x03 ∷ 0x00 ∷ 0xE8 ∷ [])
    -- finalize twice
    ∷ row 18 (closed example_board finished).reply (0x00 ∷ 0x02 ∷ 0x00 ∷ 0x02 ∷ 0x09 ∷ [])
    -- the default range ends at 15
    ∷ row 19 ((sent_to example_board 15 start 0x07 []).number ∷ (sent_to example_board 16 start 0x07 []).number ∷ []) (0 ∷ 1 ∷ [])
    -- one byte over that upload, finalized: the page's other bytes stay, those before the upload's end too
    ∷ row 20 (take 70 (closed example_board (filled example_board finished 1 0x22)).flash) (0x22 ∷ replicate 69 0x11)
    ∷ []

-- W8: pages of 128 bytes
unfoldable pub page_rows : List Row
page_rows =
    let most : Called = filled gauge_board (blank gauge_board) 127 0x11 in
    let committed : Called = byte_at gauge_board most 127 0x11 in
    let written : Called = filled gauge_board (blank gauge_board) 70 0x11 in
    let finished : Called = closed gauge_board written in
    let stated : List ℕ = replicate 70 0x11 ++ replicate 58 0xFF in
    -- number 2: pages, with S of two pages
    row 42 (map example_page (32 ∷ 63 ∷ 64 ∷ 65 ∷ 96 ∷ 127 ∷ 128 ∷ 129 ∷ 192 ∷ 256 ∷ [])) (2 ∷ 2 ∷ 0 ∷ 2 ∷ 2 ∷ 2 ∷ 0 ∷ 2 ∷ 2 ∷ 2 ∷ [])
    -- S and O under a page of 128: multiples of 64, and of 128
    ∷ row 43 (map (λ (S : ℕ). refused_as (built_of 128 I2c 256 S 0 1 [])) (64 ∷ 128 ∷ 192 ∷ 65408 ∷ 65472 ∷ 65536 ∷ []))
    (2 ∷ 0 ∷ 2 ∷ 0 ∷ 2 ∷ 2 ∷ [])
    ∷ row 44 (map (λ (O : ℕ). refused_as (built_of 128 Rs485 256 128 O 1 [])) (0 ∷ 64 ∷ 128 ∷ 65408 ∷ 65472 ∷ []))
    (0 ∷ 2 ∷ 0 ∷ 0 ∷ 2 ∷ [])
    -- number 4: w of 127 before the page's end, of 1 at it; states of one page handed to a board with the other
    ∷ row 45 (given_to gauge_board (state_at 127 127 0 0) ∷ given_to gauge_board (state_at 128 1 0 0) ∷ given_to gauge_board (state_at 70 70 0 0)
    ∷ given_to example_board (state_at 70 70 0 0) ∷ given_to example_board (state_at 70 6 1 0) ∷ given_to gauge_board (state_at 70 6 1 0) ∷ [])
    (0 ∷ 4 ∷ 0 ∷ 4 ∷ 0 ∷ 0 ∷ [])
    -- E10's write: count 0, w = 70; finalize: count 1; the same upload again: count 0
    ∷ row 46 (count_after written ∷ waiting_after written ∷ count_after finished
    ∷ count_after (closed gauge_board (filled gauge_board finished 70 0x11)) ∷ []) (0 ∷ 70 ∷ 1 ∷ 0 ∷ [])
    ∷ row 46 finished.flash stated
    -- 127 bytes wait, and the 128th commits all
    ∷ row 47 (waiting_after most ∷ waiting_after committed ∷ count_after committed ∷ []) (127 ∷ 0 ∷ 1 ∷ [])
    -- E10's write under 64 bytes, finalized under 128: its last 6 bytes at their places
    ∷ row 48 (closed gauge_board (filled example_board (blank example_board) 70 0x11)).flash stated
    ∷ []

unfoldable pub rows : List Row
rows =
    -- E1 I²C version request
    row 1 (request I2c 0 0x00 []) (0x00 ∷ 0xF3 ∷ [])
    -- E2 its reply
    ∷ row 2 (reply I2c 0 0 (2 ∷ 2 ∷ [])) (0x00 ∷ 0x02 ∷ 0x02 ∷ 0x02 ∷ 0x23 ∷ [])
    -- E3 finalize
    ∷ row 3 (request I2c 0 0x07 []) (0x07 ∷ 0xE6 ∷ [])
    -- E4 start
    ∷ row 4 (request I2c 0 0x05 []) (0x05 ∷ 0xE8 ∷ [])
    -- E5 INVALID_CRC reply
    ∷ row 5 (reply I2c 0 4 []) (0x04 ∷ 0x00 ∷ 0x83 ∷ [])
    -- E6 plain OK
    ∷ row 6 (reply I2c 0 0 []) (0x00 ∷ 0x00 ∷ 0xD7 ∷ [])
    -- E7 RS485 version to 8
    ∷ row 7 (request Rs485 8 0x00 []) (0x08 ∷ 0x00 ∷ 0x06 ∷ 0x70 ∷ [])
    -- E8 reset
    ∷ row 8 (reset_frame Rs485) (0x00 ∷ 0x46 ∷ 0x80 ∷ 0x42 ∷ [])
    -- E9 reset address
    ∷ row 9 (reset_address_frame Rs485) (0x00 ∷ 0x44 ∷ 0x01 ∷ 0x83 ∷ [])
    -- E10 to E12 on I²C
    ∷ offset_rows I2c (0x00 ∷ 0x02 ∷ 0x00 ∷ 0x02 ∷ 0x09 ∷ []) (0x00 ∷ 0x02 ∷ 0x00 ∷ 0x00 ∷ 0x07 ∷ [])
    (0x00 ∷ 0x02 ∷ 0x00 ∷ 0x03 ∷ 0x0E ∷ [])
    -- and on RS485
    ++ offset_rows Rs485 (0x08 ∷ 0x00 ∷ 0x02 ∷ 0x00 ∷ 0x02 ∷ 0xE5 ∷ 0xC0 ∷ []) (0x08 ∷ 0x00 ∷ 0x02 ∷ 0x00 ∷ 0x00 ∷ 0x64 ∷ 0x01 ∷ [])
    (0x08 ∷ 0x00 ∷ 0x02 ∷ 0x00 ∷ 0x03 ∷ 0x24 ∷ 0x00 ∷ [])
    -- edges
    ++ edge_rows
    -- number 2: M of 31, 32, 256, 257
    ++ row 21 (refused_as (built I2c 31 128 0 1 []) ∷ refused_as (built I2c 32 128 0 1 []) ∷ refused_as (built Rs485 256 128 0 1 [])
    ∷ refused_as (built Rs485 257 128 0 1 []) ∷ []) (2 ∷ 0 ∷ 0 ∷ 2 ∷ [])
    -- S of half a page, a page, 65,472, 65,536; O of half a page, 65,472, 65,536
    ∷ row 22 (refused_as (built I2c 256 32 0 1 []) ∷ refused_as (built I2c 256 64 0 1 []) ∷ refused_as (built I2c 256 65472 0 1 [])
    ∷ refused_as (built I2c 256 65536 0 1 []) ∷ []) (2 ∷ 0 ∷ 0 ∷ 2 ∷ [])
    ∷ row 23 (refused_as (built I2c 256 128 32 1 []) ∷ refused_as (built I2c 256 128 65472 1 []) ∷ refused_as
    (built I2c 256 128 65536 1 []) ∷ [])
    (2 ∷ 0 ∷ 2 ∷ [])
    -- hardware types 0, 1, 255, 256; a serial of 16 and of 17 bytes
    ∷ row 24 (refused_as (built I2c 256 128 0 0 []) ∷ refused_as (built I2c 256 128 0 1 []) ∷ refused_as (built I2c 256 128 0 255 [])
    ∷ refused_as (built I2c 256 128 0 256 []) ∷ []) (2 ∷ 0 ∷ 0 ∷ 2 ∷ [])
    ∷ row 25 (refused_as (built I2c 256 128 0 1 (replicate 16 0)) ∷ refused_as (built I2c 256 128 0 1 (replicate 17 0)) ∷ []) (0 ∷ 2 ∷ [])
    -- number 4: next of S and S + 1; w of 63 before a page's end, of 64 at it; a count of next - w and one more
    ∷ row 26 (given_to example_board (state_at 128 0 0 0) ∷ given_to example_board (state_at 129 0 0 0) ∷ []) (0 ∷ 4 ∷ [])
    ∷ row 27 (given_to example_board (state_at 127 63 0 0) ∷ given_to example_board (state_at 127 64 0 0) ∷ given_to example_board
    (state_at 128 64 0 0) ∷ [])
    (0 ∷ 4 ∷ 4 ∷ [])
    ∷ row 28 (given_to example_board (state_at 70 6 64 0) ∷ given_to example_board (state_at 70 6 65 0) ∷ []) (0 ∷ 4 ∷ [])
    -- a last reply of M and of M + 1 bytes, and one on RS485
    ∷ row 29 (given_to example_board (state_at 0 0 0 256) ∷ given_to example_board (state_at 0 0 0 257) ∷ given_to (built Rs485 256 128 0 1 [])
    (state_at 0 0 0 1) ∷ [])
    (0 ∷ 4 ∷ 4 ∷ [])
    -- W1: statuses of set address to 0, 7, 8, 119, 120, 127; 128 and 135 are 0 and 7 without their top bit, 136 and 247 are 8 and 119
    ∷ row 30 (map (example_status I2c) (0 ∷ 7 ∷ 8 ∷ 119 ∷ 120 ∷ 127 ∷ 128 ∷ 135 ∷ 136 ∷ 247 ∷ 248 ∷ 255 ∷ []))
    (5 ∷ 5 ∷ 0 ∷ 0 ∷ 5 ∷ 5 ∷ 5 ∷ 5 ∷ 0 ∷ 0 ∷ 5 ∷ 5 ∷ [])
    -- on RS485
    ∷ row 31 (map (example_status Rs485) (0 ∷ 1 ∷ 247 ∷ 248 ∷ 255 ∷ [])) (5 ∷ 0 ∷ 0 ∷ 5 ∷ 5 ∷ [])
    -- type 0 is any; with another type there is no reply, whatever the address
    ∷ row 32 (example_answer 9 0 ∷ example_answer 9 9 ∷ example_answer 0 9 ∷ []) (0 ∷ 1 ∷ 1 ∷ [])
    -- numbers of the encoder, which drops no bit
    ∷ row 33 (map (example_number I2c) (0 ∷ 7 ∷ 8 ∷ 119 ∷ 120 ∷ 127 ∷ 128 ∷ 136 ∷ []))
    (7 ∷ 7 ∷ 0 ∷ 0 ∷ 7 ∷ 7 ∷ 7 ∷ 7 ∷ [])
    ∷ row 34 (map (example_number Rs485) (0 ∷ 1 ∷ 247 ∷ 248 ∷ 255 ∷ 256 ∷ [])) (7 ∷ 0 ∷ 0 ∷ 7 ∷ 7 ∷ 7 ∷ [])
    -- W4: versions 0.0, 0.1, 0.255, 1.0, 1.1, 2.0, 2.2, 3.0, 255.0
    ∷ row 35 (map (example_version 0) (0 ∷ 1 ∷ 255 ∷ []) ++ map (example_version 1) (0 ∷ 1 ∷ []) ++ map (example_version 2) (0 ∷ 2 ∷ [])
    ++ example_version 3 0 ∷ example_version 255 0 ∷ [])
    (40 ∷ 14 ∷ 14 ∷ 0 ∷ 0 ∷ 0 ∷ 0 ∷ 14 ∷ 14 ∷ [])
    -- its reset on both buses, in an output that just holds it, and a byte less
    ∷ row 36 (numbered (running_reset I2c 32 0 0 1) ++ numbered (running_reset I2c 32 0 0 0)) (0 ∷ 0x06 ∷ 6 ∷ [])
    ∷ row 36 (numbered (running_reset Rs485 256 0 0 4) ++ numbered (running_reset Rs485 256 0 0 3))
    (0 ∷ 0x00 ∷ 0x46 ∷ 0x80 ∷ 0x42 ∷ 6 ∷ [])
    -- with no room: M of 31 and 257 before any version, 14 before 6, and a known version has nothing to write
    ∷ row 37 (numbered (running_reset I2c 31 0 1 0) ++ numbered (running_reset I2c 257 2 2 0) ++ numbered (running_reset I2c 32 0 1 0)
    ++ numbered (running_reset I2c 32 2 2 0) ++ numbered (running_reset Rs485 256 1 0 4)) (2 ∷ 2 ∷ 14 ∷ 1 ∷ 1 ∷ [])
    -- W3: frames of 0 bytes, of 3 with right CRC, of 4, of M, of M + 1; a wrong CRC; addresses 7, 15, 16
    ∷ row 38 (map (example_silence false) ([] ∷ sealed Rs485 (8 ∷ []) ∷ request Rs485 8 0x00 [] ∷ request Rs485 8 0x06 (replicate 28 0)
    ∷ request Rs485 8 0x06 (replicate 29 0) ∷ (8 ∷ 0x00 ∷ 0x06 ∷ 0x71 ∷ []) ∷ request Rs485 7 0x00 [] ∷ request Rs485 15 0x00 []
    ∷ request Rs485 16 0x00 [] ∷ []))
    (15 ∷ 15 ∷ 0 ∷ 0 ∷ 16 ∷ 17 ∷ 18 ∷ 0 ∷ 18 ∷ [])
    -- the first that applies: short and foreign; long, damaged and foreign; damaged and foreign
    ∷ row 39 (map (example_silence false) ((7 ∷ 0 ∷ []) ∷ replicate 33 7 ∷ (7 ∷ 0x00 ∷ 0x06 ∷ 0x70 ∷ []) ∷ [])) (15 ∷ 16 ∷ 17 ∷ [])
    -- to 0, which is never foreign: another general call, both of the pair, damaged, short, long
    ∷ row 40 (map (example_silence false) (request Rs485 0 0x00 [] ∷ reset_frame Rs485 ∷ reset_address_frame Rs485
    ∷ (0x00 ∷ 0x46 ∷ 0x80 ∷ 0x43 ∷ []) ∷ (0x00 ∷ 0x46 ∷ []) ∷ replicate 33 0 ∷ []))
    (1 ∷ 1 ∷ 1 ∷ 17 ∷ 15 ∷ 16 ∷ [])
    -- while running 1: short, long, damaged, foreign, and the reset
    ∷ row 41 (map (example_silence true) ([] ∷ replicate 33 7 ∷ (8 ∷ 0x00 ∷ 0x06 ∷ 0x71 ∷ []) ∷ request Rs485 7 0x00 []
    ∷ reset_frame Rs485 ∷ []))
    (1 ∷ 1 ∷ 1 ∷ 1 ∷ 1 ∷ [])
    ∷ page_rows
