-- `board_ppu::promises` holds, by `sprite_set_mapped`.
use Rattle.board_ppu.proofs.SpriteLaws.{sprite_set_mapped}
use Rattle.board_ppu.proofs.promises.Goals as goal

pub returns : goal.returns
returns c = sprite_set_mapped
