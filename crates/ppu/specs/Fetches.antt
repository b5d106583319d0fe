-- What the code's two functions leave of a fetch at $2000-$3EFF, for the steps of the code. None of the three demands rests on them: what a fetch does is said
-- step by step in `board_ppu/specs/Fetch.antt`, and that it comes to these is `counted_by_groups` of `board_ppu/proofs/Made.antt`. `SameBoard` of
-- `theorems_folds` names them among the places that are handed the tile count.
use Rattle.std.specs.Prelude.{ℕ, ◌&&◌}
use Rattle.memory.specs.Tests.{pick}
use Rattle.registers.specs.declared.Regs.{Regs}
use Rattle.registers.specs.Registers.{nametable_use}
use Rattle.scanline.specs.declared.Detector.{Detector}
use Rattle.scanline.specs.Fetches.{name_at}
use Rattle.scanline.specs.Tiles.{column_of, is_prefetched, is_first, raised_by, left_after}
use Rattle.split.specs.declared.VSplit.{VSplit}
use Rattle.split.specs.Control.{split_active}
use Rattle.split.specs.Region.{scroll_of, after_name}
use Rattle.state.specs.declared.PpuStatus.{PpuStatus}
use Rattle.ppu.specs.Cache.{cache_after}

-- The status: the tile count raised, and zeroed by the run; the cache by the count between the two. m is the match count that the fetch leaves.
unfoldable pub ppu_seen : Regs → ℕ → PpuStatus → ℕ → PpuStatus
ppu_seen g m p a =
    record {
      tile_number = left_after m (raised_by p.tile_number a);
      tile_cache = cache_after g p.tile_cache (raised_by p.tile_number a) a;
      sprite8x16 = p.sprite8x16;
      rendering = p.rendering;
      bg_set = p.bg_set;
      bg_written = p.bg_written;
    }

-- The split. Detector and tile count are those after the run.
unfoldable pub split_seen : Regs → VSplit → Detector → ℕ → ℕ → VSplit
split_seen g v d tiles a =
    pick (name_at a && split_active v (nametable_use g) d.in_frame)
    (after_name v (column_of tiles) (is_first tiles) (scroll_of d.scanline (is_prefetched tiles) v.scroll))
    v
