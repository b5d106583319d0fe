-- The first that answers, or else the page: a test for each in turn, and the page behind them.
use Prim.Native.Nat.{ℕ, ◌/◌}
use mathlib.Core.Bool.{Bool, ◌&&◌, not}
use mathlib.Core.List.{List}
use mathlib.Core.Path.{◌≡◌}
use native.Mathlib.Omega.{arith}
use lib.Dec.{eqb}
use Rattle.std.proofs.lemmas.Grind.{common_steps}
use lib.ListN.{get_or}
use Rattle.memory.specs.Tests.{pick}
use Rattle.answers.specs.declared.Answer.{Answer}
use Rattle.answers.specs.declared.Answer.TheVariants.{Served}
use Rattle.registers.specs.declared.Regs.{Regs}
use Rattle.registers.specs.Registers.{attribute_use, nametable_use}
use Rattle.banks.specs.Names.{selector}
use Rattle.scanline.specs.declared.Detector.{Detector}
use Rattle.scanline.specs.Fetches.{attribute_at, name_at}
use Rattle.scanline.specs.Tiles.{sprite_fetch, is_prefetched}
use Rattle.split.specs.declared.VSplit.{VSplit}
use Rattle.split.specs.Places.{mirrored_byte, pattern_offset}
use Rattle.split.specs.Region.{scroll_of}
use Rattle.state.specs.declared.PpuStatus.{PpuStatus}
use Rattle.ppu.specs.Served.{direct, ex_offset, split_byte, fill_byte, split_serves, counted_served, pattern_served}

pub counted_is : (g : Regs) (v : VSplit) (framed : Bool) (p : PpuStatus) (exram : List ℕ) (a : ℕ) (page : Answer)
    → counted_served g v framed p exram a page ≡
    (pick (split_serves g v framed) (Served (split_byte v exram (name_at a)))
    (pick (attribute_use g && (attribute_at a && not (sprite_fetch p.tile_number))) (Served (mirrored_byte (get_or exram p.tile_cache 0 / 64)))
    (pick (nametable_use g && eqb (selector g.nametables (a / 1024)) 3) (Served (fill_byte g (attribute_at a)))
    page)))
unfolding counted_served
counted_is g v framed p exram a page = grind (arith, common_steps)

pub pattern_is : (g : Regs) (v : VSplit) (d : Detector) (p : PpuStatus) (exram chr : List ℕ) (a : ℕ) (page : Answer)
    → pattern_served g v d p exram chr a page ≡
    (pick (split_serves g v d.in_frame)
    (Served (direct chr (pattern_offset v.bank a (scroll_of d.scanline (is_prefetched p.tile_number) v.scroll))))
    (pick (attribute_use g && not (sprite_fetch p.tile_number)) (Served (direct chr (ex_offset g.chr_hi (get_or exram p.tile_cache 0) a)))
    page))
unfolding pattern_served
pattern_is g v d p exram chr a page = grind (arith, common_steps)
