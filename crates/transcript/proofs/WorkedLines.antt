-- The worked input's lines, by computation.
use mathlib.Core.Bool.{false}
use mathlib.Core.Path.{◌≡◌, refl}
use Rattle.registers.specs.declared.Mirroring.TheVariants.{Horizontal}
use Rattle.memory.specs.Bytes.{byte_at, stored_at, page_stored}
use Rattle.memory.specs.Tests.{all}
use Rattle.memory.specs.Tables.{prg_may_hold_as, chr_may_hold_as}
use Rattle.memory.specs.PageWords.{word_number, page_of}
use Rattle.memory.specs.Windows.{page_start, window_page}
use Rattle.registers.specs.Registers.{written, regs_ok}
use Rattle.banks.specs.Placed.{placed}
use Rattle.banks.specs.Prg.{prg_values, prg_value_pages, exram_page}
use Rattle.banks.specs.Chr.{window_pages, chr_number, chr_mapped}
use Rattle.banks.specs.Names.{selector, name_page, names_mapped}
use Rattle.scanline.specs.Tiles.{next_tile, tiles_ok, sprite_fetch, is_first, is_prefetched, column_of}
use Rattle.scanline.specs.Ranges.{line_refused, counter_refused, detector_ok}
use Rattle.scanline.specs.Clock.{tick}
use Rattle.scanline.specs.Steps.{again, matches_after, is_line, meets, seen_at}
use Rattle.state.specs.Gate.{same_lengths, gate_of}
use Rattle.state.specs.Lengths.{lengths_ok}
use Rattle.state.specs.Ranges.{in_range}
use Rattle.cpu.specs.Chosen.{chosen, ppu_after}
use Rattle.cpu.specs.Groups.{split_after, irq_after, prg_banks_after, chr_banks_after}
use Rattle.cpu.specs.Reads.{page_answer, register_at, register_read, irq_read, cpu_answer}
use Rattle.cpu.specs.Writes.{prg_pages_after, chr_pages_after, register_written, latched, cpu_stored}
use Rattle.cpu.specs.PpuRegisters.{status_after, detector_after}
use Rattle.ppu.specs.Cache.{cache_after}
use Rattle.ppu.specs.Served.{counted_served}
use Rattle.board.specs.Loads.{loaded_state, load_call}
use Rattle.board.specs.CpuSide.{cpu_read, cpu_write}
use Rattle.board.specs.StateCalls.{clock_call, ppu_register_call}
use Rattle.board_ppu.specs.Fetch.{counted_call, ppu_fetch}
use Rattle.board_ppu.specs.Peeks.{chr_answer}
use Rattle.trace.specs.Numbers.{grouped, numeral, limited}
use Rattle.trace.specs.Records.{numbered, filled, record_at}
use Rattle.trace.specs.Cartridge.{counted_pages, cartridge}
use Rattle.trace.specs.Examples.{worked}
use Rattle.text.specs.Digits.{before}
use Rattle.text.specs.Examples.{worked_lines}
use Rattle.text.specs.Lines.{line}
use Rattle.transcript.specs.Lines.{lines_from}

pub worked_lines_lem : lines_from 22 worked 0 0 (load_call cartridge false Horizontal).state cartridge ≡ worked_lines
unfolding next_tile tiles_ok sprite_fetch is_first is_prefetched column_of line_refused counter_refused detector_ok tick again matches_after is_line meets seen_at byte_at stored_at page_stored all prg_may_hold_as chr_may_hold_as word_number page_of page_start window_page written regs_ok placed prg_values prg_value_pages exram_page window_pages chr_number chr_mapped selector name_page names_mapped same_lengths gate_of lengths_ok in_range chosen ppu_after split_after irq_after prg_banks_after chr_banks_after page_answer register_at register_read irq_read cpu_answer prg_pages_after chr_pages_after register_written latched cpu_stored cache_after counted_served loaded_state load_call cpu_read cpu_write clock_call status_after detector_after ppu_register_call counted_call ppu_fetch chr_answer grouped numeral limited numbered filled record_at counted_pages cartridge before line lines_from
worked_lines_lem = refl
