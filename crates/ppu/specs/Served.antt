-- What is served in the page's place. 01, "Fetches, runs, breaks": "Served order: split, attribute mode, fill, page." Modules 6 and 8.
use Rattle.std.specs.Prelude.{ℕ, ◌+◌, ◌*◌, ◌/◌, ◌%◌, Bool, false, ◌&&◌, not, List, [], ◌∷◌, eqb, get_or, length}
use Rattle.std.proofs.Math.Option.{Option, none, some}
use Rattle.memory.specs.Tests.{pick}
use Rattle.answers.specs.declared.Answer.{Answer}
use Rattle.answers.specs.declared.Answer.TheVariants.{Served}
use Rattle.registers.specs.declared.Regs.{Regs}
use Rattle.registers.specs.Registers.{attribute_use, nametable_use}
use Rattle.banks.specs.Names.{selector}
use Rattle.banks.specs.Chr.{chr_number}
use Rattle.scanline.specs.declared.Detector.{Detector}
use Rattle.scanline.specs.Fetches.{attribute_at, name_at}
use Rattle.scanline.specs.Tiles.{sprite_fetch, is_prefetched}
use Rattle.split.specs.declared.VSplit.{VSplit}
use Rattle.memory.specs.Bits.{◌AND◌, ◌OR◌, ◌<<◌}
use Rattle.split.specs.Control.{split_active}
use Rattle.split.specs.Places.{attribute_address, attribute_shift, attribute_bits, mirrored_byte, pattern_offset}
use Rattle.split.specs.Region.{scroll_of}
use Rattle.state.specs.declared.PpuStatus.{PpuStatus}

-- Module 6: "Such direct CHR offsets are taken modulo the length; empty CHR answers 0."
unfoldable pub direct : List ℕ → ℕ → ℕ
direct chr o = pick (eqb (length chr) 0) 0 (get_or chr (o % length chr) 0)

-- Module 6: "CHR at (hi << 10) OR ((that byte AND $3F) << 12) OR (address AND $FFF)"
unfoldable pub ex_offset : ℕ → ℕ → ℕ → ℕ
ex_offset hi byte a = (hi << 10) OR ((byte AND 0x3F) << 12) OR (a AND 0xFFF)

-- Module 8: "With t the address, name fetches to $2FFF get ExRAM at t. Non-name fetches, $3000-$3EFF included, get the attribute".
unfoldable pub split_byte : VSplit → List ℕ → Bool → ℕ
split_byte v exram name =
    pick name (get_or exram v.tile_addr 0)
    (mirrored_byte (attribute_bits (get_or exram (attribute_address v.tile_addr) 0) (attribute_shift v.tile_addr)))

-- Module 6: "its tile, or at an attribute address its attribute mirrored"
abbrev pub fill_byte : Regs → Bool → ℕ
fill_byte g attribute = pick attribute (mirrored_byte g.fill_attr) g.fill_tile

-- The split serves: it is active, and the fetch lies in its region.
abbrev pub split_serves : Regs → VSplit → Bool → Bool
split_serves g v framed = split_active v (nametable_use g) framed && v.in_region

-- A value, where a test holds.
abbrev pub given : Bool → ℕ → Option ℕ
given b v = pick b (some v) none

-- The first that answers, or else the page.
abbrev pub served : List (Option ℕ) → Answer → Answer
served [] page = page
served (some v ∷ l) page = Served v
served (none ∷ l) page = served l page

-- At $2000-$3EFF, by the split. Module 8: "name fetches to $2FFF get ExRAM at t. Non-name fetches, $3000-$3EFF included, get the attribute".
abbrev pub counted_by_split : Regs → VSplit → Bool → List ℕ → ℕ → Option ℕ
counted_by_split g v framed exram a = given (split_serves g v framed) (split_byte v exram (name_at a))

-- Module 6: "In attribute mode, tile count outside 32-39, an attribute address answers the top two bits of ExRAM at the tile cache, mirrored"
abbrev pub counted_by_attribute : Regs → PpuStatus → List ℕ → ℕ → Option ℕ
counted_by_attribute g p exram a =
    given (attribute_use g && (attribute_at a && not (sprite_fetch p.tile_number))) (mirrored_byte (get_or exram p.tile_cache 0 / 64))

-- Module 6: Fill "is served with that use only: its tile, or at an attribute address its attribute mirrored". That use is nametable use; selector 3
-- of $5105 is Fill.
abbrev pub counted_by_fill : Regs → ℕ → Option ℕ
counted_by_fill g a = given (nametable_use g && eqb (selector g.nametables (a / 1024)) 3) (fill_byte g (attribute_at a))

-- "Served order: split, attribute mode, fill, page."
unfoldable pub counted_served : Regs → VSplit → Bool → PpuStatus → List ℕ → ℕ → Answer → Answer
counted_served g v framed p exram a page =
    served (counted_by_split g v framed exram a ∷ counted_by_attribute g p exram a ∷ counted_by_fill g a ∷ []) page

-- At $0000-$1FFF, by the split. Module 8: "Pattern fetches get CHR at ($5202 << 12) OR ..", which is `pattern_offset`.
abbrev pub pattern_by_split : Regs → VSplit → Detector → PpuStatus → List ℕ → ℕ → Option ℕ
pattern_by_split g v d p chr a =
    given (split_serves g v d.in_frame)
    (direct chr (pattern_offset v.bank a (scroll_of d.scanline (is_prefetched p.tile_number) v.scroll)))

-- Module 6: "In attribute mode, tile count outside 32-39, .. a pattern fetch answers CHR at (hi << 10) OR ..", which is `ex_offset`.
abbrev pub pattern_by_attribute : Regs → PpuStatus → List ℕ → List ℕ → ℕ → Option ℕ
pattern_by_attribute g p exram chr a =
    given (attribute_use g && not (sprite_fetch p.tile_number)) (direct chr (ex_offset g.chr_hi (get_or exram p.tile_cache 0) a))

-- The same order. Fill is a nametable: it serves no pattern fetch.
unfoldable pub pattern_served : Regs → VSplit → Detector → PpuStatus → List ℕ → List ℕ → ℕ → Answer → Answer
pattern_served g v d p exram chr a page = served (pattern_by_split g v d p chr a ∷ pattern_by_attribute g p exram chr a ∷ []) page

-- Module 5: "The sprite peek answers .. the CHR byte the sprite set would map there."
unfoldable pub sprite_byte : Regs → List ℕ → List ℕ → ℕ → ℕ
sprite_byte g b chr a = direct chr (chr_number g b false (a / 1024 % 8) * 1024 + a % 1024)
