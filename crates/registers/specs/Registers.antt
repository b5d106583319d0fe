-- The small registers: what they mean, what a write leaves, and their ranges. 01, modules 3, 9 and 10, and "STATE ranges".
use Rattle.std.specs.Prelude.{ℕ, ◌*◌, ◌%◌, Bool, true, false, ◌&&◌, List, [], ◌∷◌, eqb, leb}
use Rattle.memory.specs.Tests.{conj, pick}
use Rattle.registers.specs.declared.Regs.{Regs}

-- Load gives "multiplier 255 x 255, fill tile 255, fill attribute 3, modes 8k and 1k, all else 0, off". PRG mode 3 is 8k, CHR mode 3 is 1k.
abbrev pub regs_at_load : Regs
regs_at_load =
    record { prg_mode = 3; chr_mode = 3; protect_a = 0; protect_b = 0; exram_mode = 0; exram_chosen = false; nametables = 0; fill_tile = 255; fill_attr = 3; chr_hi = 0; multiplicand = 255; multiplier = 255 }

-- 01, module 10: "Reset sets modes 8k and 1k and maps nothing."
abbrev pub reset_regs : Regs → Regs
reset_regs g =
    record { prg_mode = 3; chr_mode = 3; protect_a = g.protect_a; protect_b = g.protect_b; exram_mode = g.exram_mode; exram_chosen = g.exram_chosen; nametables = g.nametables; fill_tile = g.fill_tile; fill_attr = g.fill_attr; chr_hi = g.chr_hi; multiplicand = g.multiplicand; multiplier = g.multiplier }

-- "attribute use in 1"
abbrev pub attribute_use : Regs → Bool
attribute_use g = eqb g.exram_mode 1

-- "nametable use in 0, 1, yet off from load to the first $5104 write"
abbrev pub nametable_use : Regs → Bool
nametable_use g = g.exram_chosen && leb g.exram_mode 1

-- Module 4: "RAM pages are writable only with $5102 = 2 and $5103 = 1."
abbrev pub unlocked : Regs → Bool
unlocked g = eqb g.protect_a 2 && eqb g.protect_b 1

-- The registers after a CPU write, each with the address that writes it. "ExRAM mode 0-3", "$5105 gives four selectors of two bits",
-- module 9: "In attribute mode any $5101 write selects 4k." (CHR mode 1). That a mode, a protect byte, the fill attribute and $5130 keep
-- two bits, $5130's as 0, 256, 512 or 768, is the Rust's (`write_register`); 01 gives their ranges.
unfoldable pub written : Regs → ℕ → ℕ → Regs
written g a v =
    record {
      prg_mode = pick (eqb a 0x5100) (v % 4) g.prg_mode;
      chr_mode = pick (eqb a 0x5101) (pick (attribute_use g) 1 (v % 4)) g.chr_mode;
      protect_a = pick (eqb a 0x5102) (v % 4) g.protect_a;
      protect_b = pick (eqb a 0x5103) (v % 4) g.protect_b;
      exram_mode = pick (eqb a 0x5104) (v % 4) g.exram_mode;
      exram_chosen = pick (eqb a 0x5104) true g.exram_chosen;
      nametables = pick (eqb a 0x5105) v g.nametables;
      fill_tile = pick (eqb a 0x5106) v g.fill_tile;
      fill_attr = pick (eqb a 0x5107) (v % 4) g.fill_attr;
      chr_hi = pick (eqb a 0x5130) (v % 4 * 256) g.chr_hi;
      multiplicand = pick (eqb a 0x5205) v g.multiplicand;
      multiplier = pick (eqb a 0x5206) v g.multiplier;
    }

-- "fill attribute and mode numbers 0-3; protect bytes 0-3; .. `chr_hi` one of 0, 256, 512, 768"
abbrev pub regs_ranges : Regs → List Bool
regs_ranges g =
    leb g.prg_mode 3
    ∷ leb g.chr_mode 3
    ∷ leb g.exram_mode 3
    ∷ leb g.fill_attr 3
    ∷ leb g.protect_a 3
    ∷ leb g.protect_b 3
    ∷ eqb (g.chr_hi % 256) 0
    ∷ leb g.chr_hi 768
    ∷ []

unfoldable pub regs_ok : Regs → Bool
regs_ok g = conj (regs_ranges g)
