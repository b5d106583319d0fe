-- The cases of 01, "Examples at the edges", that are marked P. 01, "What each contract settles": "Cases marked P are proved as one list under one
-- statement". Each case is a history of the board from load, and what is then seen. The lists are `edges` and, for the boards that 01 shuts out
-- by name, `shut_out_cases`; below them what is promised of both.
-- Assumes nothing.
use Rattle.std.specs.Prelude.{ℕ, ◌*◌, Bool, true, false, ◌&&◌, ◌≡◌, List, [], ◌∷◌, ◌++◌, map, eqb, get_or, replicate}
use Rattle.std.proofs.Math.Option.{Option, none, some}
use Rattle.memory.specs.declared.Src.{Src}
use Rattle.memory.specs.declared.Src.TheVariants.{Blank, PrgRom, PrgRam, Chr, CiRam, ExRam}
use Rattle.memory.specs.Bytes.{Mem, mem_of}
use Rattle.memory.specs.Tests.{pick}
use Rattle.memory.specs.PageWords.{page_of}
use Rattle.answers.specs.declared.Answer.{Answer}
use Rattle.answers.specs.Letters.{letter_of, value_of}
use Rattle.registers.specs.declared.Mirroring.TheVariants.{Horizontal}
use Rattle.board.specs.CpuSide.{cpu_read}
use Rattle.board.specs.Loads.{load_call}
use Rattle.board_ppu.specs.Peeks.{chr_word_at}
use Rattle.theorems_histories.specs.Boards.{Board, Made, says, leaves, board_after, number, number_in}
use Rattle.theorems_histories.specs.Histories.{Load, Reached}
use Rattle.theorems_histories.specs.Shorthand.{read, write, tell, fetch, clock, in_turn}

-- Where a case looks: at what a CPU read answers from a register (letter `R`) or from a page (`M`), at a byte of ExRAM, at the number of the CHR
-- page that a place of the CHR table shows, or at the split's tile address.
pub data Sight : Type 0 where
  reads : (a : ℕ) → Sight
  reads_page : (a : ℕ) → Sight
  holds : (i : ℕ) → Sight
  maps : (place : ℕ) → Sight
  tile_address_lem : Sight

-- A cartridge by the lengths of PRG-ROM, CHR (as ROM) and PRG-RAM; the calls in the order in which they are made; where the case
-- then looks, and the value that is seen.
pub record Case : Type 0 where
  pub prg : ℕ
  pub chr : ℕ
  pub ram : ℕ
  pub calls : List Made
  pub sight : Sight
  pub value : ℕ

-- Every byte is 255, so that a 0 that is stored is seen.
abbrev pub lent : Case → Mem
lent c = mem_of (replicate c.prg 255) (replicate c.chr 255) (replicate c.ram 255) (replicate 2048 255) (replicate 1024 255)

abbrev pub start : Case → Board
start c = record { state = (load_call (lent c) false Horizontal).state; mem = lent c }

unfoldable pub load_accepted : Case → Bool
load_accepted c = eqb (number_in (load_call (lent c) false Horizontal).answer) 0

-- Each call is accepted, as the call before it left the board.
unfoldable pub accepted : Board → List Made → Bool
accepted b [] = true
accepted b (c ∷ cs) = eqb (number (says b c)) 0 && accepted (leaves b c) cs

-- The calls of a case, the newest first, on top of others; and the board that they leave.
unfoldable pub onto : List Made → List Made → List Made
onto [] hs = hs
onto (c ∷ cs) hs = onto cs (c ∷ hs)

abbrev pub end : Case → Board
end c = board_after (start c) (onto c.calls [])

-- The value of an answer with a letter, and the number of a CHR page.
abbrev pub lettered : ℕ → Answer → Option ℕ
lettered letter a = pick (eqb (letter_of a) letter) (some (value_of a)) none

abbrev pub chr_page : Src → ℕ → Option ℕ
chr_page Chr i = some i
chr_page Blank i = none
chr_page PrgRom i = none
chr_page PrgRam i = none
chr_page CiRam i = none
chr_page ExRam i = none

unfoldable pub seen : Board → Sight → Option ℕ
seen b (reads a) = lettered 0x52 (cpu_read b.state b.mem a).answer
seen b (reads_page a) = lettered 0x4D (cpu_read b.state b.mem a).answer
seen b (holds i) = some (get_or b.mem.exram i 0)
seen b (maps place) = chr_page (page_of (chr_word_at b.state.chr_pages (place * 1024))).src (page_of (chr_word_at b.state.chr_pages (place * 1024))).index
seen b tile_address_lem = some b.state.vsplit.tile_addr

-- What a case comes to: none, if its load or a call is refused.
unfoldable pub comes : Case → Option ℕ
comes c = pick (load_accepted c && accepted (start c) c.calls) (seen (end c) c.sight) none

abbrev pub three_fetches : List Made
three_fetches = fetch 0x2000 ∷ fetch 0x2000 ∷ fetch 0x2000 ∷ []

-- Nametable use, split at tile 3, scroll 239; then line 0 and n name fetches, the last at column n + 2. The region is clear after load, and
-- column 3 flips it.
abbrev pub scrolled : ℕ → List Made
scrolled n = write 0x5104 0 ∷ write 0x5200 0x83 ∷ write 0x5201 239 ∷ (three_fetches ++ in_turn n 0x2001 0x2002)

-- A case over a cartridge with PRG-ROM 8,192, CHR 8,192 and no PRG-RAM; over one with another PRG-ROM.
abbrev pub over_prg : ℕ → List Made → Sight → ℕ → Case
over_prg n cs s v = record { prg = n; chr = 8192; ram = 0; calls = cs; sight = s; value = v }

abbrev pub case : List Made → Sight → ℕ → Case
case cs s v = over_prg 8192 cs s v

abbrev pub edges : List Case
edges =
    -- "PRG-ROM 262,144: $5117 reads $9F; after load $5205 reads 1, $5206 reads $FE."
    over_prg 262144 [] (reads 0x5117) 0x9F
    ∷ over_prg 262144 [] (reads 0x5205) 1
    ∷ over_prg 262144 [] (reads 0x5206) 0xFE
    -- "$5104 = 1, $5101 = 3: $5101 reads 1."
    ∷ case (write 0x5104 1 ∷ write 0x5101 3 ∷ []) (reads 0x5101) 1
    -- "three fetches of $2000: $5204 reads 64. Four: still 64, even with $5203 = 1."
    ∷ case three_fetches (reads 0x5204) 64
    ∷ case (three_fetches ++ (fetch 0x2000 ∷ [])) (reads 0x5204) 64
    ∷ case (write 0x5203 1 ∷ (three_fetches ++ (fetch 0x2000 ∷ []))) (reads 0x5204) 64
    -- "$5203 = 1, $2000 x3, $2001, $2000 x3: $5204 reads 192, then 64."
    ∷ case (write 0x5203 1 ∷ (three_fetches ++ (fetch 0x2001 ∷ three_fetches))) (reads 0x5204) 192
    ∷ case (write 0x5203 1 ∷ (three_fetches ++ (fetch 0x2001 ∷ (three_fetches ++ (read 0x5204 ∷ []))))) (reads 0x5204) 64
    -- "after a line, three clocks leave 64; the fourth gives 0."
    ∷ case (three_fetches ++ (clock ∷ clock ∷ clock ∷ [])) (reads 0x5204) 64
    ∷ case (three_fetches ++ (clock ∷ clock ∷ clock ∷ clock ∷ [])) (reads 0x5204) 0
    -- "mode 0, not rendering, $5C05 = 9 stores 0; after $2001 = 8 stores 9."
    ∷ case (write 0x5104 0 ∷ write 0x5C05 9 ∷ []) (holds 5) 0
    ∷ case (write 0x5104 0 ∷ write 0x5C05 9 ∷ tell 0x2001 8 ∷ write 0x5C05 9 ∷ []) (holds 5) 9
    -- "CHR 8,192, PPU $2000 = $20, then $5128 = 6: CHR pages 0 and 4 show page 6."
    ∷ case (tell 0x2000 0x20 ∷ write 0x5128 6 ∷ []) (maps 0) 6
    ∷ case (tell 0x2000 0x20 ∷ write 0x5128 6 ∷ []) (maps 4) 6
    -- "scroll 239: column 31 gives 959, column 32 gives 928."
    ∷ case (scrolled 29) tile_address_lem 959
    ∷ case (scrolled 30) tile_address_lem 928
    ∷ []

-- 01, "What each contract settles": "Shut out by name: a board that refuses every call (demand 2), gives one fixed byte (2), stores nothing (2), or
-- serves its first call and then idles (2 and 3), and an invented line number (3)." Each of these comes to something else in a case below; the
-- first in every case with a call, since a refused call comes to none.
abbrev pub shut_out_cases : List Case
shut_out_cases =
    -- one fixed byte
    case [] (reads 0x5205) 1
    ∷ case [] (reads 0x5206) 0xFE
    -- stores nothing: PRG-RAM unlocked and $6000 = 7; ExRAM while rendering
    ∷ record { prg = 8192; chr = 0; ram = 8192; calls = write 0x5102 2 ∷ write 0x5103 1 ∷ write 0x6000 7 ∷ []; sight = reads_page 0x6000; value = 7 }
    ∷ case (tell 0x2001 8 ∷ write 0x5C3F 7 ∷ []) (holds 63) 7
    -- idles after its first call: 7 x 9; a second page; a second line
    ∷ case (write 0x5205 7 ∷ write 0x5206 9 ∷ []) (reads 0x5205) 63
    ∷ case (write 0x5120 1 ∷ write 0x5121 5 ∷ []) (maps 1) 5
    ∷ case (write 0x5203 1 ∷ (three_fetches ++ (fetch 0x2001 ∷ three_fetches))) (reads 0x5204) 192
    -- an invented line number: $5203 = 2 is met by the third line, not by the second
    ∷ case (write 0x5203 2 ∷ (three_fetches ++ (fetch 0x2001 ∷ three_fetches))) (reads 0x5204) 64
    ∷ case (write 0x5203 2 ∷ (three_fetches ++ (fetch 0x2001 ∷ (three_fetches ++ (fetch 0x2001 ∷ three_fetches))))) (reads 0x5204) 192
    ∷ []

-- Every case of a list comes to its value.
abbrev pub Hold : List Case → Type 0
Hold cs = map comes cs ≡ map (λ (c : Case). some c.value) cs

abbrev pub Edges : Type 0
Edges = Hold edges

abbrev pub ShutOut : Type 0
ShutOut = Hold shut_out_cases

-- A case that comes to something is a history: its load is accepted, and its calls lead from there to the board at which it looks.
pub record Lived (c : Case) : Type 0 where
  pub load : Load
  pub lends : load.mem ≡ lent c
  pub calls : Reached load (onto c.calls []) (end c)

abbrev pub CasesAreHistories : Type 0
CasesAreHistories = (c : Case) (v : ℕ) → comes c ≡ some v → Lived c
