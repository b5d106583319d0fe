-- The board with the full tile count, which is 01's: a number without an end. Its state is the board's own, with that number in the count's place, and its
-- definitions are the board's own, handed that number; only a name fetch raises it by one (`raised_full`) and never turns it over. No code has it. A call is
-- told as it is where it is accepted: behind an open gate, and where it meets no refusal.
-- Assumes nothing.
use Rattle.std.specs.Prelude.{ℕ, List, [], ◌∷◌, not, ◌||◌, leb, ltb, Ok}
use Rattle.memory.specs.Bytes.{Mem}
use Rattle.memory.specs.Tests.{pick}
use Rattle.memory.specs.PageWords.{page_of}
use Rattle.answers.specs.declared.Answer.{Answer}
use Rattle.answers.specs.declared.Answer.TheVariants.{Nothing, Served}
use Rattle.registers.specs.declared.Regs.{Regs}
use Rattle.scanline.specs.Fetches.{counted_at}
use Rattle.scanline.specs.Steps.{seen_at, interrupt_up}
use Rattle.scanline.specs.Tiles.{fold, left_after}
use Rattle.split.specs.declared.VSplit.{VSplit}
use Rattle.state.specs.declared.PpuStatus.{PpuStatus}
use Rattle.state.specs.declared.State.{State}
use Rattle.state.specs.With.{with_irq, with_ppu, with_vsplit}
use Rattle.cpu.specs.Reads.{cpu_answer}
use Rattle.cpu.specs.Writes.{prg_word_at}
use Rattle.ppu.specs.Cache.{cache_after}
use Rattle.ppu.specs.Fetches.{split_seen}
use Rattle.ppu.specs.Served.{counted_served, pattern_served, sprite_byte}
use Rattle.board.specs.declared.Outcome.{Outcome}
use Rattle.board.specs.Outcomes.{outcome, After}
use Rattle.board_ppu.specs.Fetch.{pattern_call}
use Rattle.board_ppu.specs.Peeks.{chr_word_at, chr_answer}
use Rattle.views.specs.Views.{cpu_shows, ppu_shows}
use Rattle.trace.specs.declared.Call.{Call}
use Rattle.theorems_scanlines.specs.Machine.{raised_full}
use Rattle.theorems_histories.specs.Boards.{Board, Made, Said}
use Rattle.theorems_histories.specs.Boards.Made.{call, peek, ppu_peek_lem, sprite_peek_lem, mirroring_asked, interrupt_asked, cpu_page, ppu_page}
use Rattle.theorems_histories.specs.Boards.Said.{answers, mirrors, interrupts, shows}
use Rattle.theorems_histories.specs.Done.{done_with}

-- What is kept of it: all, and of the count its fold.
abbrev pub kept_status : PpuStatus → PpuStatus
kept_status p =
    record { tile_number = fold p.tile_number; tile_cache = p.tile_cache; sprite8x16 = p.sprite8x16; rendering = p.rendering; bg_set = p.bg_set; bg_written = p.bg_written }

abbrev pub kept_state : State → State
kept_state s = with_ppu s (kept_status s.ppu)

abbrev pub kept_board : Board → Board
kept_board b = record { state = kept_state b.state; mem = b.mem }

-- 01, "Fetches, runs, breaks": "tile count + 1 for a name fetch to $2FFF; tile cache ..; run and line (third and later equals zero the tile count)". It is
-- `ppu_seen` with `raised_full` for `raised_by`.
unfoldable pub full_seen : Regs → ℕ → PpuStatus → ℕ → PpuStatus
full_seen g m p a =
    record {
      tile_number = left_after m (raised_full p.tile_number a);
      tile_cache = cache_after g p.tile_cache (raised_full p.tile_number a) a;
      sprite8x16 = p.sprite8x16;
      rendering = p.rendering;
      bg_set = p.bg_set;
      bg_written = p.bg_written;
    }

-- A fetch at $2000-$3EFF: what it leaves in the groups, and its answer by these.
abbrev pub full_ppu : State → ℕ → PpuStatus
full_ppu s a = full_seen s.regs (seen_at s.irq a).match_count s.ppu a

abbrev pub full_split : State → ℕ → VSplit
full_split s a = split_seen s.regs s.vsplit (seen_at s.irq a) (full_ppu s a).tile_number a

unfoldable pub full_counted : State → Mem → ℕ → Outcome
full_counted s m a =
    outcome (counted_served s.regs (full_split s a) (seen_at s.irq a).in_frame (full_ppu s a) m.exram a (chr_answer s.chr_pages m a))
    (with_vsplit (with_ppu (with_irq s (seen_at s.irq a)) (full_ppu s a)) (full_split s a))

abbrev pub full_fetch : State → Mem → ℕ → Outcome
full_fetch s m a =
    pick (counted_at a) (full_counted s m a)
    (pick (ltb a 0x2000) (pattern_call s m a)
    (outcome (chr_answer s.chr_pages m a) s))

-- Every kind of call of a trace; a PPU peek; and what each call says.
abbrev pub full_called : Call → State → Mem → After
full_called = done_with full_fetch

abbrev pub full_peek : State → Mem → ℕ → Answer
full_peek s m a =
    pick (counted_at a) (counted_served s.regs s.vsplit s.irq.in_frame s.ppu m.exram a (chr_answer s.chr_pages m a))
    (pick (ltb a 0x2000) (pattern_served s.regs s.vsplit s.irq s.ppu m.exram m.chr a (chr_answer s.chr_pages m a))
    (chr_answer s.chr_pages m a))

unfoldable pub full_says : Board → Made → Said
full_says b (call c) = answers (full_called c b.state b.mem).out.answer
full_says b (peek a) = answers (cpu_answer b.state b.mem a.0)
full_says b (ppu_peek_lem a) = answers (full_peek b.state b.mem a.0)
full_says b (sprite_peek_lem a) = answers (pick (not b.state.ppu.sprite8x16 || leb 0x2000 a.0) Nothing (Served (sprite_byte b.state.regs b.state.chr_banks b.mem.chr a.0)))
full_says b mirroring_asked = mirrors (Ok b.state.screen.mirroring)
full_says b interrupt_asked = interrupts (Ok (interrupt_up b.state.irq))
full_says b (cpu_page a) = let p = page_of (prg_word_at b.state.prg_pages a.0) in shows (cpu_shows b.mem p.src p.index)
full_says b (ppu_page a) = let p = page_of (chr_word_at b.state.chr_pages a.0) in shows (ppu_shows b.mem p.src p.index)

-- What a call leaves; and what calls leave one after the other, from b on, the newest first.
unfoldable pub full_leaves : Board → Made → Board
full_leaves b (call c) = record { state = (full_called c b.state b.mem).out.state; mem = (full_called c b.state b.mem).mem }
full_leaves b (peek a) = b
full_leaves b (ppu_peek_lem a) = b
full_leaves b (sprite_peek_lem a) = b
full_leaves b mirroring_asked = b
full_leaves b interrupt_asked = b
full_leaves b (cpu_page a) = b
full_leaves b (ppu_page a) = b

unfoldable pub full_after : Board → List Made → Board
full_after b [] = b
full_after b (c ∷ cs) = full_leaves (full_after b cs) c
