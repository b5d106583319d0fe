-- The PPU's calls: a fetch keeps the ranges, and is refused for refusal 7 alone.
use Prim.Native.Nat.{ℕ, ◌%◌}
use mathlib.Core.Bool.{true, false, ◌&&◌, not}
use mathlib.Core.List.{List}
use mathlib.Core.Path.{◌≡◌, refl}
use native.Mathlib.Omega.{arith}
use borrow.Author.Tests.{le-leb}
use lib.Dec.{leb, ltb}
use Rattle.memory.specs.declared.PageWord.{PageWord}
use Rattle.memory.specs.Bytes.{Mem}
use Rattle.memory.specs.Tables.{chr_table_ok}
use Rattle.memory.proofs.Tests.{split, pick_keeps}
use Rattle.registers.specs.declared.Regs.{Regs}
use Rattle.registers.specs.Registers.{attribute_use, nametable_use}
use Rattle.scanline.specs.Fetches.{counted_at, attribute_at, name_at}
use Rattle.scanline.specs.Ranges.{counter_refused}
use Rattle.scanline.specs.Steps.{seen_at}
use Rattle.scanline.specs.Tiles.{sprite_fetch, is_prefetched, raised_by}
use Rattle.scanline.proofs.RangeLaws.{ranges_kept}
use Rattle.split.specs.declared.VSplit.{VSplit}
use Rattle.split.specs.Control.{split_active, split_ranges}
use Rattle.split.proofs.RegionLaws.{scroll_small, name_keeps_ranges}
use Rattle.state.specs.declared.State.{State}
use Rattle.state.specs.Gate.{Open, gate_mem}
use Rattle.state.specs.Ranges.{in_range}
use Rattle.state.proofs.RangeLaws.{ranged, in_range_lem}
use Rattle.cpu.specs.Chosen.{chosen, set_changed}
use Rattle.ppu.specs.Cache.{cache_after}
use Rattle.ppu.specs.Fetches.{ppu_seen, split_seen}
use Rattle.board_ppu.specs.Counted.{counted_irq, counted_ppu, counted_split, counted_state}
use Rattle.board_ppu.specs.Fetch.{pattern_pages, pattern_ppu, pattern_state, pattern_call, ppu_fetch}
use Rattle.board_ppu.specs.Peeks.{ppu_write}
use Rattle.board_ppu.proofs.Made.{counted_by_groups}
use Rattle.theorems_promises.proofs.Calls.{mappable}
use Rattle.theorems_promises.proofs.Gates.{same, in_range_of, stays, page_stored_sizes}
use Rattle.theorems_promises.proofs.Mapped.{chr_keeps}

-- The tile cache holds ten bits.
cache_keeps : (g : Regs) (cache raised a : ℕ) → leb cache 1023 ≡ true → leb (cache_after g cache raised a) 1023 ≡ true
unfolding cache_after
cache_keeps g cache raised a h =
    pick_keeps (λ (n : ℕ). leb n 1023 ≡ true) (attribute_use g && (not (attribute_at a) && not (sprite_fetch raised))) (le-leb (a % 1024) 1023 (omega arith)) h

-- The split's address stays at 959 or less.
pub split_keeps : (s : State) (a : ℕ) → split_ranges s.vsplit ≡ true → split_ranges (counted_split s a) ≡ true
unfolding split_seen
split_keeps s a h =
    pick_keeps (λ (v : VSplit). split_ranges v ≡ true) (name_at a && split_active s.vsplit (nametable_use s.regs) (counted_irq s a).in_frame)
    (name_keeps_ranges s.vsplit _ _ _ (scroll_small (counted_irq s a).scanline (is_prefetched (counted_ppu s a).tile_number) s.vsplit.scroll) h) h

module _ (s : State) (a : ℕ) (h : in_range s ≡ true) where
  pub name_keeps_range : counted_at a ≡ true → counter_refused s.irq a ≡ false → in_range (counted_state s a) ≡ true
  unfolding ppu_seen seen_at
  name_keeps_range counts free =
      let r = ranged s h in
      in_range_lem (counted_state s a) (record {
        lengths = r.lengths;
        detector = ranges_kept.seen s.irq a counts free r.detector;
        regs = r.regs;
        vsplit = split_keeps s a r.vsplit;
        cache = cache_keeps s.regs s.ppu.tile_cache (raised_by s.ppu.tile_number a) a r.cache;
        tiles = ranges_kept.tiles s.irq s.ppu.tile_number a r.tiles;
        prg_pages = r.prg_pages;
        chr_pages = r.chr_pages;
      })

  pub pattern_keeps_range : in_range (pattern_state s) ≡ true
  unfolding chosen pattern_pages
  pattern_keeps_range =
      let r = ranged s h in
      in_range_lem (pattern_state s) (record {
        lengths = r.lengths;
        detector = r.detector;
        regs = r.regs;
        vsplit = r.vsplit;
        cache = r.cache;
        tiles = r.tiles;
        prg_pages = r.prg_pages;
        chr_pages =
            pick_keeps (λ (p : List PageWord). chr_table_ok s.lengths.chr s.lengths.chr_writable p ≡ true) (set_changed s.ppu.bg_set (pattern_ppu s).bg_set)
            (chr_keeps s.lengths.prg s.lengths.chr s.lengths.ram (mappable s.lengths r.lengths) s.lengths.chr_writable s.regs s.chr_banks (pattern_ppu s).bg_set s.chr_pages r.chr_pages)
            r.chr_pages;
      })

module _ (s : State) (m : Mem) (h : gate_mem s m ≡ Open) where
  pub fetch_open : (a : ℕ) → gate_mem (ppu_fetch s m a).state m ≡ Open
  unfolding ppu_fetch pattern_call
  fetch_open a =
      let r = in_range_of s m h in
      split (counter_refused s.irq a)
      (λ t. rw (h, t) h)
      (λ free. rw (h, free)
      (split (counted_at a)
      (λ counts. rw (counts, counted_by_groups s m a) (stays s _ m m h refl (name_keeps_range s a r counts free) (same m)))
      (λ no. rw no
      (split (ltb a 0x2000)
      (λ low. rw low (stays s _ m m h refl (pattern_keeps_range s a r) (same m)))
      (λ high. rw high h)))))

  pub ppu_write_open : (a v : ℕ) → gate_mem (ppu_write s m a v).out.state (ppu_write s m a v).mem ≡ Open
  unfolding ppu_write
  ppu_write_open a v = rw h (stays s s m _ h refl (in_range_of s m h) (page_stored_sizes m _ a v))
