-- What serves the code of `tables.rt` and `windows.rt`: it states no sentence of 01, and no promise names it.
use Rattle.std.specs.Prelude.{ℕ, ◌+◌, ◌-◌, ◌*◌, ◌/◌, ◌%◌, nat_lt}
use Rattle.memory.specs.declared.PageWord.{PageWord}
use Rattle.memory.specs.Tests.{pick}

-- The words that a PRG table may hold are one run of 16-bit numbers, from PRG-RAM's last page past the greatest number and on to PRG-ROM's last:
-- a word's place in the run, and how many places it has.
abbrev pub prg_place : ℕ → PageWord → ℕ
prg_place ram p = (p.0 + 2 * (ram / 1024)) % 65536

abbrev pub prg_places : ℕ → ℕ → ℕ
prg_places prg ram = 3 + prg / 1024 + 2 * (ram / 1024)

-- Where the page after the one at x starts: the next, or the first where the buffer ends. That it gives the pages of
-- `page_start` is `next_page` of `proofs/WindowLaws.antt`.
abbrev pub following : ℕ → ℕ → ℕ
following len x = pick (nat_lt (x + 1024) len) (x + 1024) (x + 1024 - len)
