-- A PPU fetch. 01, "Fetches, runs, breaks" and modules 5 to 8.
use Rattle.std.specs.Prelude.{ℕ, Bool, ◌&&◌, List, ltb}
use Rattle.memory.specs.declared.PageWord.{PageWord}
use Rattle.memory.specs.Bytes.{Mem}
use Rattle.memory.specs.Tests.{pick}
use Rattle.answers.specs.declared.Refusal.TheVariants.{Counter}
use Rattle.banks.specs.Chr.{chr_mapped}
use Rattle.cpu.specs.Chosen.{chosen, set_changed}
use Rattle.ppu.specs.Cache.{cache_after}
use Rattle.ppu.specs.Served.{counted_served, pattern_served}
use Rattle.registers.specs.Registers.{nametable_use}
use Rattle.scanline.specs.Fetches.{counted_at, name_at}
use Rattle.scanline.specs.Ranges.{counter_refused}
use Rattle.scanline.specs.Steps.{seen_at}
use Rattle.scanline.specs.Tiles.{column_of, is_prefetched, is_first, raised_by, left_after}
use Rattle.split.specs.Control.{split_active}
use Rattle.split.specs.Region.{scroll_of, after_name}
use Rattle.state.specs.declared.PpuStatus.{PpuStatus}
use Rattle.state.specs.declared.State.{State}
use Rattle.state.specs.Gate.{gate_mem}
use Rattle.state.specs.With.{with_irq, with_ppu, with_vsplit, with_chr_pages, with_tile_number, with_tile_cache}
use Rattle.board.specs.declared.Outcome.{Outcome}
use Rattle.board.specs.Outcomes.{outcome, refused, behind}
use Rattle.board_ppu.specs.Peeks.{chr_answer}

-- A fetch at $2000-$3EFF is five steps, each on the state that the one before it left. 01, "Fetches, runs, breaks":

-- "tile count + 1 for a name fetch to $2FFF"
abbrev pub tile_counted : State → ℕ → State
tile_counted s a = with_ppu s (with_tile_number s.ppu (raised_by s.ppu.tile_number a))

-- "tile cache (in attribute mode, not at an attribute address, tile count outside 32-39: the address's low ten bits)"
abbrev pub tile_cached : State → ℕ → State
tile_cached s a = with_ppu s (with_tile_cache s.ppu (cache_after s.regs s.ppu.tile_cache s.ppu.tile_number a))

-- "run and line (third and later equals zero the tile count)": by the match count that the run leaves
abbrev pub line_seen : State → ℕ → State
line_seen s a =
    let d = seen_at s.irq a in
    with_ppu (with_irq s d) (with_tile_number s.ppu (left_after d.match_count s.ppu.tile_number))

-- "split". Module 8: "Active when enabled, with nametable use, in frame; the region moves on name fetches to $2FFF only."
abbrev pub split_moved : State → ℕ → State
split_moved s a =
    let tile = s.ppu.tile_number in
    let scroll = scroll_of s.irq.scanline (is_prefetched tile) s.vsplit.scroll in
    with_vsplit s
    (pick (name_at a && split_active s.vsplit (nametable_use s.regs) s.irq.in_frame) (after_name s.vsplit (column_of tile) (is_first tile) scroll) s.vsplit)

-- "answer": by what the steps left
abbrev pub answered : State → Mem → ℕ → Outcome
answered s m a = outcome (counted_served s.regs s.vsplit s.irq.in_frame s.ppu m.exram a (chr_answer s.chr_pages m a)) s

-- "Inside one fetch the order is": tile count, tile cache, run and line, split, answer
unfoldable pub counted_call : State → Mem → ℕ → Outcome
counted_call s m a = answered (split_moved (line_seen (tile_cached (tile_counted s a) a) a) a) m a

-- Module 5: "A pattern fetch chooses first, mapping only on a change".
unfoldable pub pattern_pages : State → Bool → List PageWord
pattern_pages s bg =
    pick (set_changed s.ppu.bg_set bg) (chr_mapped s.lengths.chr s.lengths.chr_writable s.regs s.chr_banks bg s.chr_pages) s.chr_pages

abbrev pub pattern_ppu : State → PpuStatus
pattern_ppu s = chosen s.ppu s.irq.in_frame

abbrev pub pattern_state : State → State
pattern_state s = with_chr_pages (with_ppu s (pattern_ppu s)) (pattern_pages s (pattern_ppu s).bg_set)

unfoldable pub pattern_call : State → Mem → ℕ → Outcome
pattern_call s m a =
    outcome (pattern_served s.regs s.vsplit s.irq (pattern_ppu s) m.exram m.chr a (chr_answer (pattern_pages s (pattern_ppu s).bg_set) m a)) (pattern_state s)

-- Refusal 7 is a fetch's only one of its own; "from $3F00 on only the page answers".
unfoldable pub ppu_fetch : State → Mem → ℕ → Outcome
ppu_fetch s m a =
    behind (gate_mem s m) (refused s)
    (pick (counter_refused s.irq a) (refused s Counter)
    (pick (counted_at a) (counted_call s m a)
    (pick (ltb a 0x2000) (pattern_call s m a)
    (outcome (chr_answer s.chr_pages m a) s))))
