-- 01, "STATE ranges": "recorded lengths pass load; idle count 0-2; fill attribute and mode numbers 0-3; protect bytes 0-3; split tile 0-31; tile
-- address 0-959; tile cache 0-1,023; `chr_hi` one of 0, 256, 512, 768; tile count and line counter within 7's limits; each page blank or a
-- whole page of a buffer its table may show." CR 7, of the tile count: "The state's range for it becomes 0 to 83." Each group's ranges stand with the crate
-- that has the group.
use Rattle.std.specs.Prelude.{Bool, List, [], ◌∷◌, leb}
use Rattle.memory.specs.Tables.{prg_table_ok, chr_table_ok}
use Rattle.memory.specs.Tests.{conj}
use Rattle.registers.specs.Registers.{regs_ok}
use Rattle.scanline.specs.Ranges.{detector_ok}
use Rattle.scanline.specs.Tiles.{tiles_ok}
use Rattle.split.specs.Control.{split_ranges}
use Rattle.state.specs.declared.State.{State}
use Rattle.state.specs.Lengths.{lengths_ok}

abbrev pub ranges : State → List Bool
ranges s =
    lengths_ok s.lengths
    ∷ detector_ok s.irq
    ∷ regs_ok s.regs
    ∷ split_ranges s.vsplit
    ∷ leb s.ppu.tile_cache 1023
    ∷ tiles_ok s.ppu.tile_number
    ∷ prg_table_ok s.lengths.prg s.lengths.ram s.prg_pages
    ∷ chr_table_ok s.lengths.chr s.lengths.chr_writable s.chr_pages
    ∷ []

unfoldable pub in_range : State → Bool
in_range s = conj (ranges s)
