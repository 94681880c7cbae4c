-- W8: the sizes that a page allows; and a state that was made under one page and is handed to a board with another. The state doesn't hold
-- its page, so these are claims about any state at all.
use Rattle.std.specs.Prelude.{◌≡◌, ◌⊎◌, true, false, List, [], ◌++◌, ℕ, ◌+◌, ◌-◌, ◌%◌, ◌≤◌, length}
use Rattle.rules.specs.Bytes.{overlay}
use Rattle.rules.specs.Profile.{Profile, in_range}
use Rattle.rules.specs.State.{State, Upload, fresh_upload, upload_formed, well_formed}
use Rattle.rules.specs.Numbers.{refusal}
use Rattle.rules.specs.Frames.{command_of, arguments_of}
use Rattle.rules.specs.Commit.{Progress, page_start, taken_all, finalized}
use Rattle.ledger.specs.Calls.{Call, Frame, Board}
use Rattle.demands.specs.Past.{past_of, well_framed}
use Rattle.wrongboards.specs.Variations.{with_page}

-- what a profile has that is not refused by number 2: S and O go up to the last multiple of the page within 65,472, which is 65,408 under
-- a page of 128
pub record Sized (p : Profile) : Type 0 where
  pub page_is : (p.page ≡ 64) ⊎ (p.page ≡ 128)
  pub size_paged : p.size % p.page ≡ 0
  pub size_least : p.page ≤ p.size
  pub size_most : p.size ≤ page_start p.page 65472
  pub offset_paged : p.offset % p.page ≡ 0
  pub offset_most : p.offset ≤ page_start p.page 65472

abbrev pub SizesPaged : Type 0
SizesPaged = (p : Profile) (s : State) (n m : ℕ) → (refusal p s n m ≡ 2 → ⊥) → Sized p

-- a finalize of the upload u over the flash d left e: the waiting bytes at their own places, from O + next - w on, every other byte as it
-- was; nothing waits any more, and next is kept
pub record Laid (p : Profile) (u : Upload) (d : List ℕ) (after : Upload) (e : List ℕ) : Type 0 where
  pub flash_is : e ≡ overlay d (p.offset + (u.next - length u.waiting)) u.waiting
  pub none_waits : after.waiting ≡ []
  pub next_kept : after.next ≡ u.next

-- over any board that shows what its state says: a state in it, whatever page it was made under, is judged by the profile's rule alone
pub record HandedIn (B : Board) (shows : B.Kept → State) : Type 0 where
  -- malformed: every call gets number 4 and no reply; state and flash are the given ones
  pub malformed :
      (p : Profile) (s : B.Kept) (d : List ℕ) (c : Call) → in_range p ≡ true → p.offset + p.size ≤ length d
      → well_formed p (shows s) ≡ false
      → B.call p s d c ≡ record { number = 4; reply = []; state = s; flash = d }
  -- well formed: a finalize is answered, and lays the waiting bytes at their own places
  pub finalized :
      (p : Profile) (s : B.Kept) (d : List ℕ) (a : ℕ) (f : List ℕ) (n : ℕ) → refusal p (shows s) (length d) n ≡ 0
      → well_framed p (past_of (shows s)) a f ≡ true → command_of p.bus f ≡ 0x07 → arguments_of p.bus f ≡ []
      → ((B.call p s d (Frame a f n)).number ≡ 0)
      × Laid p (shows s).upload d (shows (B.call p s d (Frame a f n)).state).upload (B.call p s d (Frame a f n)).flash

-- an upload from 0 on, begun under one page and gone on under another where its state is well formed: after the finalize the image stands
-- in flash as a whole, and every other byte is as it was
abbrev pub GoesOn : Type 0
GoesOn =
    (p : Profile) (page : ℕ) (d first second : List ℕ) → in_range p ≡ true → in_range (with_page p page) ≡ true
    → p.offset + p.size ≤ length d → length (first ++ second) ≤ p.size
    → let begun : Progress = taken_all p (record { upload = fresh_upload; flash = d }) first in
    upload_formed page p.size begun.upload ≡ true
    → (finalized (with_page p page) (taken_all (with_page p page) begun second)).flash ≡ overlay d p.offset (first ++ second)

-- a state that is well formed under a page is so under every multiple of it: one made under 64 bytes is always taken under 128
abbrev pub MultipleTakes : Type 0
MultipleTakes =
    (p : Profile) (page : ℕ) (s : State) → page % p.page ≡ 0 → well_formed p s ≡ true → well_formed (with_page p page) s ≡ true

-- the other way round, which does not hold
abbrev pub DivisorTakes : Type 0
DivisorTakes =
    (p : Profile) (page : ℕ) (s : State) → p.page % page ≡ 0 → well_formed p s ≡ true → well_formed (with_page p page) s ≡ true
