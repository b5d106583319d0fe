-- PPU peek, sprite peek and PPU memory write.
use Rattle.std.specs.Prelude.{ℕ, ◌/◌, ◌%◌, not, ◌||◌, List, leb, ltb, get_or}
use Rattle.memory.specs.declared.PageWord.{PageWord}
use Rattle.memory.specs.Bytes.{Mem, page_stored}
use Rattle.memory.specs.Tests.{pick}
use Rattle.memory.specs.PageWords.{word, page_of}
use Rattle.answers.specs.declared.Answer.{Answer}
use Rattle.answers.specs.declared.Answer.TheVariants.{Nothing, Served, Refused}
use Rattle.answers.specs.declared.Refusal.{Refusal}
use Rattle.scanline.specs.Fetches.{counted_at}
use Rattle.cpu.specs.Reads.{page_answer}
use Rattle.ppu.specs.Served.{counted_served, pattern_served, sprite_byte}
use Rattle.state.specs.declared.State.{State}
use Rattle.state.specs.Gate.{gate_mem}
use Rattle.board.specs.Outcomes.{outcome, refused, After, after_of, behind}

-- 01: "PPU pages are taken modulo 16".
abbrev pub chr_word_at : List PageWord → ℕ → PageWord
chr_word_at pages a = get_or pages (a / 1024 % 16) (word 0)

unfoldable pub chr_answer : List PageWord → Mem → ℕ → Answer
chr_answer pages m a = page_answer m (page_of (chr_word_at pages a)) a

-- A peek answers as the state is: nothing is counted and no set is chosen. "from $3F00 on only the page answers"
unfoldable pub ppu_peek : State → Mem → ℕ → Answer
ppu_peek s m a =
    behind (gate_mem s m) Refused
    (pick (counted_at a) (counted_served s.regs s.vsplit s.irq.in_frame s.ppu m.exram a (chr_answer s.chr_pages m a))
    (pick (ltb a 0x2000) (pattern_served s.regs s.vsplit s.irq s.ppu m.exram m.chr a (chr_answer s.chr_pages m a))
    (chr_answer s.chr_pages m a)))

-- Module 5: "The sprite peek answers none in 8x8 or from $2000 on, else the CHR byte the sprite set would map there."
unfoldable pub sprite_peek : State → Mem → ℕ → Answer
sprite_peek s m a =
    behind (gate_mem s m) Refused
    (pick (not s.ppu.sprite8x16 || leb 0x2000 a) Nothing (Served (sprite_byte s.regs s.chr_banks m.chr a)))

-- A PPU memory write stores through the page, and changes no state.
unfoldable pub ppu_write : State → Mem → ℕ → ℕ → After
ppu_write s m a v =
    behind (gate_mem s m) (λ (r : Refusal). after_of (refused s r) m)
    (after_of (outcome Nothing s) (page_stored m (page_of (chr_word_at s.chr_pages a)) a v))
