-- Steps inside a call, over all addresses, for the entry points by value, the host and the loop of replay; no promise names them.
use Rattle.std.specs.Prelude.{ℕ, Bool, eqb, ltb}
use Rattle.memory.specs.declared.PageWord.{PageWord}
use Rattle.memory.specs.Tests.{pick}
use Rattle.banks.specs.Prg.{exram_page}
use Rattle.cpu.specs.Chosen.{chosen}
use Rattle.state.specs.declared.PpuStatus.{PpuStatus}

-- The word of page 23 of the PRG table ($5C00) after a CPU write; `mode` is the ExRAM mode after it. Module 3: "CPU read in 2, 3; page write only
-- in 2".
unfoldable pub exram_word : PageWord → ℕ → ℕ → PageWord
exram_word w mode a = pick (eqb a 0x5104) (exram_page mode) w

-- The PPU status after a fetch that does not count. Module 5: "A pattern fetch chooses first".
unfoldable pub chosen_at : PpuStatus → Bool → ℕ → PpuStatus
chosen_at p framed a = pick (ltb a 0x2000) (chosen p framed) p
