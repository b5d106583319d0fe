-- The tile cache after a fetch at $2000-$3EFF.
use Rattle.std.specs.Prelude.{ℕ, ◌%◌, ◌&&◌, not}
use Rattle.memory.specs.Tests.{pick}
use Rattle.registers.specs.declared.Regs.{Regs}
use Rattle.registers.specs.Registers.{attribute_use}
use Rattle.scanline.specs.Fetches.{attribute_at}
use Rattle.scanline.specs.Tiles.{sprite_fetch}

-- 01, "Fetches, runs, breaks": "tile cache (in attribute mode, not at an attribute address, tile count outside 32-39: the address's low ten bits)"
unfoldable pub cache_after : Regs → ℕ → ℕ → ℕ → ℕ
cache_after g cache tiles a = pick (attribute_use g && (not (attribute_at a) && not (sprite_fetch tiles))) (a % 1024) cache
