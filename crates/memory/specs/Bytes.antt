-- The five lent buffers, the byte that a page and an address name, and a store through a page.
-- 01, module 1: "1,024 bytes each .. Blank reads 0 and takes no write."
use Rattle.std.specs.Prelude.{ℕ, ◌+◌, ◌*◌, ◌%◌, List, [], slice_index, slice_set}
use Rattle.memory.specs.declared.Lent.{Lent}
use Rattle.memory.specs.declared.Page.{Page}
use Rattle.memory.specs.declared.Place.{Place}
use Rattle.memory.specs.declared.Src.{Src}
use Rattle.memory.specs.declared.Src.TheVariants.{Blank, PrgRom, PrgRam, Chr, CiRam, ExRam}
use Rattle.memory.specs.Tests.{pick}

-- 01, "What must change shape": "One boxed `data` with ranges: separate buffers."
pub record Mem : Type 0 where
  pub prg : List ℕ
  pub chr : List ℕ
  pub ram : List ℕ
  pub ciram : List ℕ
  pub exram : List ℕ

abbrev pub mem_of : List ℕ → List ℕ → List ℕ → List ℕ → List ℕ → Mem
mem_of p c r i e = record { prg = p; chr = c; ram = r; ciram = i; exram = e }

-- What the five hold that the code lends as one value.
abbrev pub mem_in : Lent → Mem
mem_in l = mem_of l.prg.now l.chr.now l.ram.now l.ciram.now l.exram.now

-- The buffer that a source names. Blank has none: it "reads 0", as every place past a buffer's end does.
abbrev pub buffer_of : Mem → Src → List ℕ
buffer_of m Blank = []
buffer_of m PrgRom = m.prg
buffer_of m PrgRam = m.ram
buffer_of m Chr = m.chr
buffer_of m CiRam = m.ciram
buffer_of m ExRam = m.exram

-- The buffers with another in its place. Blank "takes no write", nor does PRG-ROM.
abbrev pub with_buffer : Mem → Src → List ℕ → Mem
with_buffer m Blank l = m
with_buffer m PrgRom l = m
with_buffer m PrgRam l = mem_of m.prg m.chr l m.ciram m.exram
with_buffer m Chr l = mem_of m.prg l m.ram m.ciram m.exram
with_buffer m CiRam l = mem_of m.prg m.chr m.ram l m.exram
with_buffer m ExRam l = mem_of m.prg m.chr m.ram m.ciram l

-- The offset in the page's buffer: the page's first byte and the address's low ten bits.
abbrev pub offset_of : ℕ → ℕ → ℕ
offset_of index a = index * 1024 + a % 1024

abbrev pub place_of : Page → ℕ → Place
place_of p a = record { src = p.src; offset = offset_of p.index a }

-- The byte at a place, 0 past the end of its buffer; and the buffers with it stored, nothing past the end.
unfoldable pub byte_at : Mem → Src → ℕ → ℕ
byte_at m s i = slice_index (buffer_of m s) i

unfoldable pub stored_at : Mem → Src → ℕ → ℕ → Mem
stored_at m s i v = with_buffer m s (slice_set (buffer_of m s) i v)

-- Through a page: the byte that an address reads, and the buffers after a write, which is taken only where the page is writable.
abbrev pub page_byte : Mem → Page → ℕ → ℕ
page_byte m p a = byte_at m p.src (offset_of p.index a)

unfoldable pub page_stored : Mem → Page → ℕ → ℕ → Mem
page_stored m p a v = pick p.writable (stored_at m p.src (offset_of p.index a) v) m
