-- Lengths that pass have a last bank and whole pages (`lengths_say`).
use native.Mathlib.Omega.{arith}
use Rattle.state.proofs.SizeLaws.{lengths_say}
use Rattle.board.proofs.loads.loaded.Goals as goal

pub overflow_sub-last : goal.overflow_sub-last
overflow_sub-last c = let t = lengths_say _ c.requires in omega (arith, t.prg_least)

pub map_prg-prg_pages-requires : goal.map_prg-prg_pages-requires
map_prg-prg_pages-requires c = let t = lengths_say _ c.requires in (omega (arith, t.prg_whole), t.ram_whole)
