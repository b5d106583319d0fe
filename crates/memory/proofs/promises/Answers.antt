-- Each promise is a law of `WordLaws`, `WindowLaws` or `NamedLaws`.
use Rattle.memory.proofs.NamedLaws.{rom_page, ram_page, chr_page_lem, aligned}
use Rattle.memory.proofs.WindowLaws.{page_inside, one_page_window}
use Rattle.memory.proofs.WordLaws.{making_is_undone, words_differ}
use Rattle.memory.proofs.promises.Goals as goal

pub returns : goal.returns
returns c = record { undone = making_is_undone; apart = words_differ; inside = page_inside; one_page = one_page_window; rom = rom_page; ram = ram_page; chr = chr_page_lem; aligned = aligned }
