-- Every call on a state in range leaves it in range, and the recorded lengths as they were.
use Rattle.scanline.specs.Ranges.{detector_ok}
use Prim.Native.Nat.{ℕ}
use mathlib.Core.Bool.{Bool, true, false, ◌||◌, ◌&&◌}
use mathlib.Core.List.{List}
use mathlib.Core.Path.{◌≡◌, refl}
use native.Mathlib.Omega.{arith}
use lib.Dec.{eqb, leb}
use lib.ListN.{replicate}
use Rattle.memory.specs.declared.PageWord.{PageWord}
use Rattle.memory.specs.Tests.{all}
use Rattle.memory.specs.Tables.{prg_may_hold_as, chr_may_hold_as, prg_table_ok, chr_table_ok}
use Rattle.memory.specs.PageWords.{word, page_of}
use Rattle.memory.proofs.Tests.{pick_keeps}
use Rattle.registers.specs.declared.Mirroring.{Mirroring}
use Rattle.registers.specs.declared.Regs.{Regs}
use Rattle.registers.specs.Registers.{nametable_use, regs_ok, regs_at_load, reset_regs}
use Rattle.registers.proofs.RangeLaws.{ranges_say, ranges_hold, loaded_in_range, write_keeps}
use Rattle.scanline.specs.declared.Detector.{Detector}
use Rattle.scanline.specs.Tiles.{tiles_ok}
use Rattle.scanline.specs.Steps.{dark, clocked}
use Rattle.scanline.proofs.RangeLaws.{ranges_kept}
use Rattle.split.specs.declared.VSplit.{VSplit}
use Rattle.split.specs.Control.{split_ranges}
use Rattle.split.proofs.ControlLaws.{load_in_ranges, control_keeps_ranges, scroll_keeps_ranges, bank_keeps_ranges}
use Rattle.state.specs.declared.Lengths.{Lengths}
use Rattle.state.specs.declared.PpuStatus.{PpuStatus}
use Rattle.state.specs.declared.State.{State}
use Rattle.state.specs.Lengths.{lengths_ok}
use Rattle.state.specs.Ranges.{in_range}
use Rattle.state.specs.With.{with_irq, with_regs, with_ppu}
use Rattle.state.proofs.RangeLaws.{ranged, in_range_lem}
use Rattle.state.proofs.SizeLaws.{lengths_say}
use Rattle.cpu.specs.Chosen.{chosen, ppu_after}
use Rattle.cpu.specs.Groups.{within, split_after, irq_after}
use Rattle.cpu.specs.Reads.{irq_read}
use Rattle.cpu.specs.Writes.{maps_prg, maps_chr, maps_names, prg_pages_after, chr_pages_after, register_written}
use Rattle.cpu.specs.PpuRegisters.{status_after, detector_after}
use Rattle.board.specs.Loads.{first_banks, loaded_state}
use Rattle.board.specs.StateCalls.{ppu_register_written}
use Rattle.theorems_promises.proofs.Mapped.{Mappable, prg_keeps, exram_keeps, chr_keeps, names_keep}

pub mappable : (z : Lengths) → lengths_ok z ≡ true → Mappable z.prg z.chr z.ram
mappable z h =
    let t = lengths_say z h in
    record {
      prg_least = omega (arith, t.prg_least);
      prg_whole = omega (arith, t.prg_whole);
      prg_most = t.prg_most;
      chr_whole = t.chr_whole;
      chr_most = t.chr_most;
      ram_whole = t.ram_whole;
      ram_most = t.ram_most;
    }

-- The groups -------------------------------------------------------------------------------------------------------------------------

split_after_keeps : (v : VSplit) (a n : ℕ) → split_ranges v ≡ true → split_ranges (split_after v a n) ≡ true
unfolding split_after
split_after_keeps v a n h =
    pick_keeps (λ (w : VSplit). split_ranges w ≡ true) (eqb a 0x5200) (control_keeps_ranges v n h)
    (pick_keeps (λ (w : VSplit). split_ranges w ≡ true) (eqb a 0x5201) (scroll_keeps_ranges v n h)
    (pick_keeps (λ (w : VSplit). split_ranges w ≡ true) (eqb a 0x5202) (bank_keeps_ranges v n h) h))

abbrev Sound : Detector → Type 0
Sound d = detector_ok d ≡ true

irq_after_keeps : (d : Detector) (a n : ℕ) → Sound d → Sound (irq_after d a n)
unfolding irq_after
irq_after_keeps d a n h = pick_keeps Sound (eqb a 0x5203) (ranges_kept.target n d h) (pick_keeps Sound (eqb a 0x5204) (ranges_kept.enabled n d h) h)

irq_read_keeps : (d : Detector) (a : ℕ) → Sound d → Sound (irq_read d a)
unfolding irq_read
irq_read_keeps d a h = pick_keeps Sound (eqb a 0x5204) (ranges_kept.status_read_call d h) (pick_keeps Sound (eqb a 0xFFFA || eqb a 0xFFFB) (ranges_kept.vector_read_call d h) h)

-- The choice of a set changes neither the tile count nor the tile cache.
choice_keeps : (P : PpuStatus → Type 0) (p : PpuStatus) (f : Bool) (a : ℕ)
    → ((set written : Bool) → P (record { tile_number = p.tile_number; tile_cache = p.tile_cache; sprite8x16 = p.sprite8x16; rendering = p.rendering; bg_set = set; bg_written = written })) → P (ppu_after p f a)
unfolding ppu_after chosen
choice_keeps P p f a h =
    pick_keeps P (eqb a 0x5101) (h _ _) (pick_keeps P (within 0x5120 0x5127 a) (h _ _) (pick_keeps P (within 0x5128 0x512B a) (h _ _) (h _ _)))

-- A CPU write -------------------------------------------------------------------------------------------------------------------------

prg_pages_keep : (z : Lengths) (g : Regs) (b : List ℕ) (pages : List PageWord) (a : ℕ) → lengths_ok z ≡ true → prg_table_ok z.prg z.ram pages ≡ true → prg_table_ok z.prg z.ram (prg_pages_after z g b pages a) ≡ true
unfolding prg_pages_after
prg_pages_keep z g b pages a l h =
    let m = mappable z l in
    pick_keeps (λ (p : List PageWord). prg_table_ok z.prg z.ram p ≡ true) (maps_prg a) (prg_keeps z.prg z.chr z.ram m g b pages h)
    (pick_keeps (λ (p : List PageWord). prg_table_ok z.prg z.ram p ≡ true) (eqb a 0x5104) (exram_keeps z.prg z.chr z.ram m g.exram_mode pages h) h)

chr_pages_keep : (z : Lengths) (g : Regs) (b : List ℕ) (bg : Bool) (pages : List PageWord) (a : ℕ) → lengths_ok z ≡ true → chr_table_ok z.chr z.chr_writable pages ≡ true → chr_table_ok z.chr z.chr_writable (chr_pages_after z g b bg pages a) ≡ true
unfolding chr_pages_after
chr_pages_keep z g b bg pages a l h =
    let m = mappable z l in
    pick_keeps (λ (p : List PageWord). chr_table_ok z.chr z.chr_writable p ≡ true) (maps_chr a) (chr_keeps z.prg z.chr z.ram m z.chr_writable g b bg pages h)
    (pick_keeps (λ (p : List PageWord). chr_table_ok z.chr z.chr_writable p ≡ true) (maps_names a) (names_keep z.prg z.chr z.ram m z.chr_writable g.nametables (nametable_use g) pages h) h)

pub write_keeps_range : (s : State) (a v : ℕ) → in_range s ≡ true → in_range (register_written s a v) ≡ true
unfolding register_written
write_keeps_range s a v h =
    let r = ranged s h in
    in_range_lem (register_written s a v) (record {
      lengths = r.lengths;
      detector = irq_after_keeps s.irq a v r.detector;
      regs = write_keeps s.regs a v r.regs;
      vsplit = split_after_keeps s.vsplit a v r.vsplit;
      cache = choice_keeps (λ (p : PpuStatus). leb p.tile_cache 1023 ≡ true) s.ppu s.irq.in_frame a (λ _ _. r.cache);
      tiles = choice_keeps (λ (p : PpuStatus). tiles_ok p.tile_number ≡ true) s.ppu s.irq.in_frame a (λ _ _. r.tiles);
      prg_pages = prg_pages_keep s.lengths _ _ s.prg_pages a r.lengths r.prg_pages;
      chr_pages = chr_pages_keep s.lengths _ _ _ s.chr_pages a r.lengths r.chr_pages;
    })

-- The other calls ---------------------------------------------------------------------------------------------------------------------

-- A state with other registers, another detector and another PPU status, each in range.
abbrev StatusOk : PpuStatus → Type 0
StatusOk p = (leb p.tile_cache 1023 ≡ true) × (tiles_ok p.tile_number ≡ true)

groups_keep_range : (s : State) (g : Regs) (d : Detector) (p : PpuStatus) → in_range s ≡ true → regs_ok g ≡ true → Sound d → leb p.tile_cache 1023 ≡ true → tiles_ok p.tile_number ≡ true
    → in_range (with_ppu (with_irq (with_regs s g) d) p) ≡ true
groups_keep_range s g d p h hg hd hc ht =
    let r = ranged s h in
    in_range_lem (with_ppu (with_irq (with_regs s g) d) p) (record {
      lengths = r.lengths;
      detector = hd;
      regs = hg;
      vsplit = r.vsplit;
      cache = hc;
      tiles = ht;
      prg_pages = r.prg_pages;
      chr_pages = r.chr_pages;
    })

irq_keeps_range : (s : State) (d : Detector) → in_range s ≡ true → Sound d → in_range (with_irq s d) ≡ true
irq_keeps_range s d h k = let r = ranged s h in groups_keep_range s s.regs d s.ppu h r.regs k r.cache r.tiles

pub read_keeps_range : (s : State) (a : ℕ) → in_range s ≡ true → in_range (with_irq s (irq_read s.irq a)) ≡ true
read_keeps_range s a h = irq_keeps_range s (irq_read s.irq a) h (irq_read_keeps s.irq a (ranged s h).detector)

pub clock_keeps_range : (s : State) → in_range s ≡ true → in_range (with_irq s (clocked s.irq)) ≡ true
clock_keeps_range s h = irq_keeps_range s (clocked s.irq) h (ranges_kept.clock s.irq (ranged s h).detector)

reset_regs_keep : (g : Regs) → regs_ok g ≡ true → regs_ok (reset_regs g) ≡ true
reset_regs_keep g h =
    let r = ranges_say g h in
    ranges_hold (reset_regs g) (record {
      prg_mode = omega arith;
      chr_mode = omega arith;
      exram_mode = r.exram_mode;
      fill_attr = r.fill_attr;
      protect_a = r.protect_a;
      protect_b = r.protect_b;
      hi_whole = r.hi_whole;
      hi_most = r.hi_most;
    })

pub reset_keeps_range : (s : State) → in_range s ≡ true → in_range (with_regs s (reset_regs s.regs)) ≡ true
reset_keeps_range s h = let r = ranged s h in groups_keep_range s (reset_regs s.regs) s.irq s.ppu h (reset_regs_keep s.regs r.regs) r.detector r.cache r.tiles

-- The sprites' size and rendering have no range; a break keeps the detector's.
status_keeps : (p : PpuStatus) (a v : ℕ) → StatusOk p → StatusOk (status_after p a v)
unfolding status_after
status_keeps p a v h = pick_keeps StatusOk (eqb a 0x2000) h (pick_keeps StatusOk (eqb a 0x2001) h h)

detector_keeps : (d : Detector) (a v : ℕ) → Sound d → Sound (detector_after d a v)
unfolding detector_after
detector_keeps d a v h = pick_keeps Sound (eqb a 0x2001 && dark v) (ranges_kept.darkened d h) h

pub register_keeps_range : (s : State) (a v : ℕ) → in_range s ≡ true → in_range (ppu_register_written s a v) ≡ true
register_keeps_range s a v h =
    let r = ranged s h in
    let p = status_keeps s.ppu a v (r.cache, r.tiles) in
    groups_keep_range s s.regs (detector_after s.irq a v) (status_after s.ppu a v) h r.regs (detector_keeps s.irq a v r.detector) p.0 p.1

-- Load: tables of blank pages are in range, and mapping keeps them so.
blank_prg : (prg ram : ℕ) → prg_table_ok prg ram (replicate 64 (word 0)) ≡ true
unfolding all page_of prg_may_hold_as
blank_prg prg ram = refl

blank_chr : (chr : ℕ) (as_ram : Bool) → chr_table_ok chr as_ram (replicate 16 (word 0)) ≡ true
unfolding all page_of chr_may_hold_as
blank_chr chr as_ram = refl

no_tiles : tiles_ok 0 ≡ true
unfolding tiles_ok
no_tiles = refl

pub load_in_range : (z : Lengths) (mirroring : Mirroring) → lengths_ok z ≡ true → in_range (loaded_state z mirroring) ≡ true
unfolding loaded_state
load_in_range z mirroring l =
    let m = mappable z l in
    in_range_lem (loaded_state z mirroring) (record {
      lengths = l;
      detector = ranges_kept.at_load;
      regs = loaded_in_range;
      vsplit = load_in_ranges;
      cache = refl;
      tiles = no_tiles;
      prg_pages = prg_keeps z.prg z.chr z.ram m regs_at_load (first_banks z.prg) (replicate 64 (word 0)) (blank_prg z.prg z.ram);
      chr_pages = names_keep z.prg z.chr z.ram m z.chr_writable 0 false _ (chr_keeps z.prg z.chr z.ram m z.chr_writable _ _ _ (replicate 16 (word 0)) (blank_chr z.chr z.chr_writable));
    })
