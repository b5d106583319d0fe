-- Load. 01, module 10: "Load writes no lent byte; it gives $5117 bit 7 set and the last bank, multiplier 255 x 255, fill tile 255, fill attribute 3,
-- modes 8k and 1k, all else 0, off, none or sprite, then maps."
use Rattle.std.specs.Prelude.{ℕ, ◌+◌, ◌-◌, ◌/◌, ◌%◌, Bool, true, false, not, List, [], ◌∷◌, length, replicate}
use Rattle.memory.specs.Bytes.{Mem}
use Rattle.memory.specs.Tests.{pick}
use Rattle.memory.specs.PageWords.{word}
use Rattle.answers.specs.declared.Answer.TheVariants.{Nothing, Refused}
use Rattle.answers.specs.declared.Refusal.{Refusal}
use Rattle.answers.specs.declared.Refusal.TheVariants.{Prg, Chr, Ram}
use Rattle.registers.specs.declared.Mirroring.{Mirroring}
use Rattle.registers.specs.declared.Mirroring.TheVariants.{Horizontal}
use Rattle.registers.specs.Registers.{regs_at_load}
use Rattle.banks.specs.Chr.{chr_mapped}
use Rattle.banks.specs.Names.{names_mapped}
use Rattle.banks.specs.Prg.{prg_mapped}
use Rattle.scanline.specs.Steps.{detector_at_load}
use Rattle.split.specs.Control.{split_at_load}
use Rattle.state.specs.declared.Lengths.{Lengths}
use Rattle.state.specs.declared.PpuStatus.{PpuStatus}
use Rattle.state.specs.declared.State.{State}
use Rattle.state.specs.Lengths.{prg_taken, chr_taken, ram_taken}
use Rattle.board.specs.declared.Outcome.{Outcome}
use Rattle.board.specs.Outcomes.{outcome}

-- "A refused load yields a zero state marked not loaded." docs/DECISIONS.md: "mirroring Horizontal, every page blank, every number 0"
abbrev pub zero_state : State
zero_state =
    record {
      lengths = record { loaded = false; prg = 0; chr = 0; ram = 0; ciram = 0; exram = 0; chr_writable = false };
      regs = record { prg_mode = 0; chr_mode = 0; protect_a = 0; protect_b = 0; exram_mode = 0; exram_chosen = false; nametables = 0; fill_tile = 0; fill_attr = 0; chr_hi = 0; multiplicand = 0; multiplier = 0 };
      vsplit = record { mode = 0; enabled = false; right = false; tile = 0; scroll = 0; bank = 0; in_region = false; tile_addr = 0 };
      irq = record { prev_some = false; prev_addr = record { 0 = 0 }; match_count = 0; reading = false; idle_count = 0; in_frame = false; scanline = 0; pending = false; irq_enabled = false; irq_scanline = 0 };
      ppu = record { tile_number = 0; tile_cache = 0; sprite8x16 = false; rendering = false; bg_set = false; bg_written = false };
      screen = record { mirroring = Horizontal };
      prg_banks = replicate 5 0;
      chr_banks = replicate 16 0;
      prg_pages = replicate 64 (word 0);
      chr_pages = replicate 16 (word 0);
    }

abbrev pub not_loaded : Refusal → Outcome
not_loaded r = outcome (Refused r) zero_state

-- "$5117 bit 7 set and the last bank": of banks of 8,192 bytes, in seven bits.
abbrev pub last_bank : ℕ → ℕ
last_bank prg = 128 + (prg / 8192 - 1) % 128

abbrev pub first_banks : ℕ → List ℕ
first_banks prg = 0 ∷ 0 ∷ 0 ∷ 0 ∷ last_bank prg ∷ []

-- "all else 0, off, none or sprite": of the PPU's status, and so below of the split, the detector and the CHR banks.
abbrev pub status_at_load : PpuStatus
status_at_load = record { tile_number = 0; tile_cache = 0; sprite8x16 = false; rendering = false; bg_set = false; bg_written = false }

-- "then maps": the PRG windows, the sprites' CHR set, the nametables of $5105 = 0; ExRAM's CPU page is blank in mode 0.
unfoldable pub loaded_state : Lengths → Mirroring → State
loaded_state z m =
    record {
      lengths = z;
      regs = regs_at_load;
      vsplit = split_at_load;
      irq = detector_at_load;
      ppu = status_at_load;
      screen = record { mirroring = m };
      prg_banks = first_banks z.prg;
      chr_banks = replicate 16 0;
      prg_pages = prg_mapped z.prg z.ram regs_at_load (first_banks z.prg) (replicate 64 (word 0));
      chr_pages = names_mapped 0 false (chr_mapped z.chr z.chr_writable regs_at_load (replicate 16 0) false (replicate 16 (word 0)));
    }

-- What load records.
abbrev pub recorded : Mem → Bool → Lengths
recorded m as_ram =
    record { loaded = true; prg = length m.prg; chr = length m.chr; ram = length m.ram; ciram = length m.ciram; exram = length m.exram; chr_writable = as_ram }

-- Refusals 1, 2 and 3, in order.
unfoldable pub load_call : Mem → Bool → Mirroring → Outcome
load_call m as_ram mirroring =
    pick (not (prg_taken (length m.prg))) (not_loaded Prg)
    (pick (not (chr_taken (length m.chr))) (not_loaded Chr)
    (pick (not (ram_taken (length m.ram) (length m.ciram) (length m.exram))) (not_loaded Ram)
    (outcome Nothing (loaded_state (recorded m as_ram) mirroring))))
