-- Document 01, "Profile and sizes": what a board is built as, and the range rule (number 2).
use Rattle.std.specs.Prelude.{Bool, ◌&&◌, ◌||◌, List, ℕ, ◌%◌, eqb, leb, length}
use Rattle.rules.specs.declared.kinds.Bus.{Bus}

pub record Profile : Type 0 where
  pub bus : Bus
  -- M, longest frame
  pub longest : ℕ
  -- page size
  pub page : ℕ
  -- S, working flash
  pub size : ℕ
  -- O, the working flash's offset in the lent flash
  pub offset : ℕ
  -- hardware type
  pub hardware : ℕ
  -- compatible revision
  pub compatible : ℕ
  -- actual revision
  pub actual : ℕ
  -- bootloader version
  pub version : ℕ
  pub serial : List ℕ

-- M, longest frame, 32 to 256
abbrev pub frame_in_range : ℕ → Bool
frame_in_range M = leb 32 M && leb M 256

-- a multiple of the page
abbrev pub paged : ℕ → ℕ → Bool
paged page n = eqb (n % page) 0

-- the largest page that a profile in range has: as many bytes can wait
abbrev pub largest_page : ℕ
largest_page = 128

-- page: 64 or 128 bytes (W8)
abbrev pub page_in_range : ℕ → Bool
page_in_range page = eqb page 64 || eqb page largest_page

-- S: a multiple of the page, from one page to 65,472
abbrev pub size_in_range : ℕ → ℕ → Bool
size_in_range page S = paged page S && (leb page S && leb S 65472)

-- O: a multiple of the page, from 0 to 65,472
abbrev pub offset_in_range : ℕ → ℕ → Bool
offset_in_range page O = paged page O && leb O 65472

-- hardware type 1 to 255
abbrev pub hardware_in_range : ℕ → Bool
hardware_in_range t = leb 1 t && leb t 255

-- number 2 is given exactly where this is false
unfoldable pub in_range : Profile → Bool
in_range p =
    frame_in_range p.longest
    && (page_in_range p.page
    && (size_in_range p.page p.size
    && (offset_in_range p.page p.offset
    && (hardware_in_range p.hardware
    && leb (length p.serial) 16))))
