-- The cartridge that 01 gives the program `replay`: "PRG-ROM 32,768 (byte = offset / 1,024), CHR-ROM 8,192 (128 + offset / 1,024), PRG-RAM 8,192,
-- RAMs zero, Horizontal". Below it, that these are its bytes, as one statement, which the contract of `promises` holds. Assumes nothing.
use Rattle.std.specs.Prelude.{ℕ, zero, suc, ◌+◌, ◌/◌, ◌<◌, List, [], ◌++◌, ◌≡◌, length, get_or, replicate}
use Rattle.memory.specs.Bytes.{Mem, mem_of}

-- n pages of 1,024 bytes, the first of bytes b, each next one of bytes one larger.
unfoldable pub counted_pages : ℕ → ℕ → List ℕ
counted_pages b zero = []
counted_pages b (suc n) = replicate 1024 b ++ counted_pages (b + 1) n

unfoldable pub cartridge : Mem
cartridge = mem_of (counted_pages 0 32) (counted_pages 128 8) (replicate 8192 0) (replicate 2048 0) (replicate 1024 0)

pub record CartridgeBytes : Type 0 where
  pub prg_length : length cartridge.prg ≡ 32768
  pub prg_byte : (offset : ℕ) → offset < 32768 → get_or cartridge.prg offset 0 ≡ offset / 1024
  pub chr_length : length cartridge.chr ≡ 8192
  pub chr_byte : (offset : ℕ) → offset < 8192 → get_or cartridge.chr offset 0 ≡ 128 + offset / 1024
