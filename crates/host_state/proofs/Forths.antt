-- A state in range that fits its types: its words are within their limits, and read again they are the state.
use Prim.Native.Nat.{ℕ, ◌+◌, ◌*◌, ◌-◌, ◌/◌, ◌%◌, ◌≤◌}
use mathlib.Core.Bool.{Bool, true, false}
use mathlib.Core.List.{List, [], ◌∷◌}
use mathlib.Core.Path.{◌≡◌, refl, ap, ◌∙◌}
use native.Mathlib.Omega.{arith}
use borrow.Author.Tests.{le-leb, leb-true, eqb-true}
use lib.Dec.{eqb, leb}
use lib.ListN.{length, take}
use lib.Seq.{take_all, take_at, drop_at}
use Rattle.memory.specs.declared.PageWord.{PageWord}
use Rattle.memory.specs.Bits.{as_bit}
use Rattle.memory.proofs.Tests.{conj_at, and_left, and_right}
use Rattle.registers.specs.declared.Mirroring.{Mirroring}
use Rattle.registers.specs.declared.Mirroring.TheVariants.{Horizontal, Vertical, SingleScreenA, SingleScreenB, FourScreen}
use Rattle.registers.specs.declared.Regs.{Regs}
use Rattle.registers.specs.Registers.{regs_ranges, regs_ok}
use Rattle.scanline.specs.declared.Detector.{Detector}
use Rattle.scanline.specs.Ranges.{detector_ok}
use Rattle.scanline.specs.Tiles.{tiles_ok}
use Rattle.split.specs.declared.VSplit.{VSplit}
use Rattle.state.specs.declared.Lengths.{Lengths}
use Rattle.state.specs.declared.PpuStatus.{PpuStatus}
use Rattle.state.specs.declared.State.{State}
use Rattle.state.specs.Ranges.{in_range}
use Rattle.state.proofs.RangeLaws.{ranged}
use Rattle.state.proofs.SizeLaws.{Taken, lengths_say}
use Rattle.host_state.specs.Fits.{Fits}
use Rattle.host_state.specs.Words.{limits, all_within, within_limits, in_word, mirroring_numbered, number_of_mirroring, pages_of, numbers_of, state_of, words_of}
use Rattle.host_state.proofs.PartLaws.{numbers_length}
use Rattle.host_state.proofs.PutLaws.{listed}

-- What the ranges and the types say of each number.
pub record Fields (s : State) : Type 0 where
  pub taken : Taken s.lengths
  pub prg_mode : s.regs.prg_mode ≤ 3
  pub chr_mode : s.regs.chr_mode ≤ 3
  pub protect_a : s.regs.protect_a ≤ 3
  pub protect_b : s.regs.protect_b ≤ 3
  pub exram_mode : s.regs.exram_mode ≤ 3
  pub fill_attr : s.regs.fill_attr ≤ 3
  pub hi_whole : s.regs.chr_hi % 256 ≡ 0
  pub hi_most : s.regs.chr_hi ≤ 768
  pub tile : s.vsplit.tile ≤ 31
  pub tile_addr : s.vsplit.tile_addr ≤ 959
  pub idle : s.irq.idle_count ≤ 2
  pub line : s.irq.scanline ≤ 65279
  pub cache : s.ppu.tile_cache ≤ 1023
  pub tiles : s.ppu.tile_number ≤ 83

fields : (s : State) → in_range s ≡ true → Fields s
unfolding regs_ok detector_ok tiles_ok
fields s h =
    let r = ranged s h in
    let g = conj_at (regs_ranges s.regs) in
    record {
      taken = lengths_say s.lengths r.lengths;
      prg_mode = leb-true _ 3 (g 0 r.regs);
      chr_mode = leb-true _ 3 (g 1 r.regs);
      exram_mode = leb-true _ 3 (g 2 r.regs);
      fill_attr = leb-true _ 3 (g 3 r.regs);
      protect_a = leb-true _ 3 (g 4 r.regs);
      protect_b = leb-true _ 3 (g 5 r.regs);
      hi_whole = eqb-true _ 0 (g 6 r.regs);
      hi_most = leb-true _ 768 (g 7 r.regs);
      tile = leb-true _ 31 (and_left _ (leb s.vsplit.tile_addr 959) r.vsplit);
      tile_addr = leb-true _ 959 (and_right (leb s.vsplit.tile 31) _ r.vsplit);
      idle = leb-true _ 2 (and_left _ (leb s.irq.scanline 65279) r.detector);
      line = leb-true _ 65279 (and_right (leb s.irq.idle_count 2) _ r.detector);
      cache = leb-true _ 1023 r.cache;
      tiles = leb-true _ 83 r.tiles;
    }

flag_fits : (b : Bool) → leb (as_bit b) 1 ≡ true
flag_fits true = refl
flag_fits false = refl

mirroring_fits : (m : Mirroring) → leb (number_of_mirroring m) 4 ≡ true
mirroring_fits Horizontal = refl
mirroring_fits Vertical = refl
mirroring_fits SingleScreenA = refl
mirroring_fits SingleScreenB = refl
mirroring_fits FourScreen = refl

-- The words are within their limits.
module _ (s : State) (f : Fits s) (x : Fields s) where
  pub words_within : within_limits (words_of s) ≡ true
  unfolding within_limits all_within limits
  words_within =
      rw (
        flag_fits s.lengths.loaded,
        flag_fits s.lengths.chr_writable,
        flag_fits s.regs.exram_chosen,
        flag_fits s.vsplit.enabled,
        flag_fits s.vsplit.right,
        flag_fits s.vsplit.in_region,
        flag_fits s.irq.prev_some,
        flag_fits s.irq.reading,
        flag_fits s.irq.in_frame,
        flag_fits s.irq.pending,
        flag_fits s.irq.irq_enabled,
        flag_fits s.ppu.sprite8x16,
        flag_fits s.ppu.rendering,
        flag_fits s.ppu.bg_set,
        flag_fits s.ppu.bg_written,
        mirroring_fits s.screen.mirroring,
        le-leb _ 3 x.prg_mode,
        le-leb _ 3 x.chr_mode,
        le-leb _ 3 x.protect_a,
        le-leb _ 3 x.protect_b,
        le-leb _ 3 x.exram_mode,
        le-leb _ 255 f.nametables,
        le-leb _ 255 f.fill_tile,
        le-leb _ 3 x.fill_attr,
        le-leb _ 255 f.multiplicand,
        le-leb _ 255 f.multiplier,
        le-leb _ 255 f.mode,
        le-leb _ 31 x.tile,
        le-leb _ 255 f.scroll,
        le-leb _ 255 f.bank,
        le-leb _ 255 f.match_count,
        le-leb _ 2 x.idle,
        le-leb _ 255 f.irq_scanline,
        le-leb (s.regs.chr_hi / 256) 3 (omega (arith, x.hi_most)),
        le-leb _ 959 x.tile_addr,
        le-leb _ 65535 f.prev_addr,
        le-leb _ 65279 x.line,
        le-leb _ 1023 x.cache,
        le-leb (in_word (s.lengths.prg / 8192 - 1)) 127 (omega (arith, x.taken.prg_most)),
        le-leb (in_word (s.lengths.chr / 1024)) 1024 (omega (arith, x.taken.chr_most)),
        le-leb (in_word (s.lengths.ram / 1024)) 64 (omega (arith, x.taken.ram_most)),
        le-leb (in_word s.ppu.tile_number) 83 (omega (arith, x.tiles)),
        le-leb _ 255 (f.prg_bytes 0),
        le-leb _ 255 (f.prg_bytes 1),
        le-leb _ 255 (f.prg_bytes 2),
        le-leb _ 255 (f.prg_bytes 3),
        le-leb _ 255 (f.prg_bytes 4),
        le-leb _ 255 (f.chr_bytes 0),
        le-leb _ 255 (f.chr_bytes 1),
        le-leb _ 255 (f.chr_bytes 2),
        le-leb _ 255 (f.chr_bytes 3),
        le-leb _ 255 (f.chr_bytes 4),
        le-leb _ 255 (f.chr_bytes 5),
        le-leb _ 255 (f.chr_bytes 6),
        le-leb _ 255 (f.chr_bytes 7),
        le-leb _ 255 (f.chr_bytes 8),
        le-leb _ 255 (f.chr_bytes 9),
        le-leb _ 255 (f.chr_bytes 10),
        le-leb _ 255 (f.chr_bytes 11),
        le-leb _ 255 (f.chr_bytes 12),
        le-leb _ 255 (f.chr_bytes 13),
        le-leb _ 255 (f.chr_bytes 14),
        le-leb _ 255 (f.chr_bytes 15),
      )

-- The groups, read again.
flag_forth : (b : Bool) → eqb (as_bit b) 1 ≡ b
flag_forth true = refl
flag_forth false = refl

mirroring_forth : (m : Mirroring) → mirroring_numbered (number_of_mirroring m) ≡ m
mirroring_forth Horizontal = refl
mirroring_forth Vertical = refl
mirroring_forth SingleScreenA = refl
mirroring_forth SingleScreenB = refl
mirroring_forth FourScreen = refl

pages_forth : (l : List PageWord) → pages_of (numbers_of l) ≡ l
pages_forth [] = refl
pages_forth (x ∷ l) = ap (λ (r : List PageWord). x ∷ r) (pages_forth l)

-- The tables, where they have their lengths.
pub prg_pages_forth : (s : State) → length s.prg_pages ≡ 64 → (state_of (words_of s)).prg_pages ≡ s.prg_pages
prg_pages_forth s e = ap pages_of (take_at (numbers_of s.prg_pages) (numbers_of s.chr_pages) 64 (numbers_length s.prg_pages 64 e)) ∙ pages_forth s.prg_pages

pub chr_pages_forth : (s : State) → length s.prg_pages ≡ 64 → length s.chr_pages ≡ 16 → (state_of (words_of s)).chr_pages ≡ s.chr_pages
chr_pages_forth s ep ec =
    let c = numbers_of s.chr_pages in
    ap (λ (l : List ℕ). pages_of (take 16 l)) (drop_at (numbers_of s.prg_pages) c 64 (numbers_length s.prg_pages 64 ep))
    ∙ ap pages_of (take_all 16 c (omega (arith, numbers_length s.chr_pages 16 ec))) ∙ pages_forth s.chr_pages

byte_forth : (n : ℕ) → n ≤ 255 → n % 256 ≡ n
byte_forth n h = omega (arith, h)

module _ (s : State) (f : Fits s) (x : Fields s) where
  lengths_forth : (state_of (words_of s)).lengths ≡ s.lengths
  lengths_forth =
      let z = s.lengths in
      let t = x.taken in
      let prg : (in_word (z.prg / 8192 - 1) + 1) * 8192 ≡ z.prg = omega (arith, t.prg_whole, t.prg_least, t.prg_most) in
      let chr : in_word (z.chr / 1024) * 1024 ≡ z.chr = omega (arith, t.chr_whole, t.chr_most) in
      let ram : in_word (z.ram / 1024) * 1024 ≡ z.ram = omega (arith, t.ram_whole, t.ram_most) in
      rw (flag_forth z.loaded, flag_forth z.chr_writable, prg, chr, ram, ← t.ciram_is, ← t.exram_is)

  regs_forth : (state_of (words_of s)).regs ≡ s.regs
  regs_forth =
      let g = s.regs in
      let small : (n : ℕ) → n ≤ 3 → n % 256 ≡ n = λ n h. omega (arith, h) in
      let hi : g.chr_hi / 256 % 4 * 256 ≡ g.chr_hi = omega (arith, x.hi_whole, x.hi_most) in
      rw (
        flag_forth g.exram_chosen,
        small _ x.prg_mode,
        small _ x.chr_mode,
        small _ x.protect_a,
        small _ x.protect_b,
        small _ x.exram_mode,
        small _ x.fill_attr,
        hi,
        byte_forth _ f.nametables,
        byte_forth _ f.fill_tile,
        byte_forth _ f.multiplicand,
        byte_forth _ f.multiplier,
      )

  split_forth : (state_of (words_of s)).vsplit ≡ s.vsplit
  split_forth =
      let v = s.vsplit in
      let tile : v.tile % 256 ≡ v.tile = omega (arith, x.tile) in
      rw (flag_forth v.enabled, flag_forth v.right, flag_forth v.in_region, tile, byte_forth _ f.mode, byte_forth _ f.scroll, byte_forth _ f.bank)

  irq_forth : (state_of (words_of s)).irq ≡ s.irq
  irq_forth =
      let d = s.irq in
      let idle : d.idle_count % 256 ≡ d.idle_count = omega (arith, x.idle) in
      rw (
        flag_forth d.prev_some,
        flag_forth d.reading,
        flag_forth d.in_frame,
        flag_forth d.pending,
        flag_forth d.irq_enabled,
        idle,
        byte_forth _ f.match_count,
        byte_forth _ f.irq_scanline,
      )

  ppu_forth : (state_of (words_of s)).ppu ≡ s.ppu
  ppu_forth =
      let p = s.ppu in
      let tiles : in_word p.tile_number ≡ p.tile_number = omega (arith, x.tiles) in
      rw (words_within s f x, flag_forth p.sprite8x16, flag_forth p.rendering, flag_forth p.bg_set, flag_forth p.bg_written, tiles)

  prg_banks_forth : (state_of (words_of s)).prg_banks ≡ s.prg_banks
  prg_banks_forth = rw (byte_forth _ (f.prg_bytes 0), byte_forth _ (f.prg_bytes 1), byte_forth _ (f.prg_bytes 2), byte_forth _ (f.prg_bytes 3), byte_forth _ (f.prg_bytes 4)) (listed s.prg_banks 5 f.prg_banks)

  chr_banks_forth : (state_of (words_of s)).chr_banks ≡ s.chr_banks
  chr_banks_forth = rw (
    byte_forth _ (f.chr_bytes 0),
    byte_forth _ (f.chr_bytes 1),
    byte_forth _ (f.chr_bytes 2),
    byte_forth _ (f.chr_bytes 3),
    byte_forth _ (f.chr_bytes 4),
    byte_forth _ (f.chr_bytes 5),
    byte_forth _ (f.chr_bytes 6),
    byte_forth _ (f.chr_bytes 7),
    byte_forth _ (f.chr_bytes 8),
    byte_forth _ (f.chr_bytes 9),
    byte_forth _ (f.chr_bytes 10),
    byte_forth _ (f.chr_bytes 11),
    byte_forth _ (f.chr_bytes 12),
    byte_forth _ (f.chr_bytes 13),
    byte_forth _ (f.chr_bytes 14),
    byte_forth _ (f.chr_bytes 15),
  ) (listed s.chr_banks 16 f.chr_banks)

abbrev made : Lengths → Regs → VSplit → Detector → PpuStatus → Mirroring → List ℕ → List ℕ → List PageWord → List PageWord → State
made z r v d p m pb cb pp cp =
    record { lengths = z; regs = r; vsplit = v; irq = d; ppu = p; screen = record { mirroring = m }; prg_banks = pb; chr_banks = cb; prg_pages = pp; chr_pages = cp }

same_state : {z z' : Lengths} {r r' : Regs} {v v' : VSplit} {d d' : Detector} {p p' : PpuStatus} {m m' : Mirroring} {pb pb' cb cb' : List ℕ} {pp pp' cp cp' : List PageWord}
    → z ≡ z' → r ≡ r' → v ≡ v' → d ≡ d' → p ≡ p' → m ≡ m' → pb ≡ pb' → cb ≡ cb' → pp ≡ pp' → cp ≡ cp' → made z r v d p m pb cb pp cp ≡ made z' r' v' d' p' m' pb' cb' pp' cp'
same_state a b c d e f g h i j = rw (a, b, c, d, e, f, g, h, i, j)

pub words_forth : (s : State) → Fits s → in_range s ≡ true → state_of (words_of s) ≡ s
words_forth s f h =
    let x = fields s h in
    same_state (lengths_forth s f x) (regs_forth s f x) (split_forth s f x) (irq_forth s f x) (ppu_forth s f x) (mirroring_forth s.screen.mirroring)
    (prg_banks_forth s f x) (chr_banks_forth s f x) (prg_pages_forth s f.prg_pages) (chr_pages_forth s f.prg_pages f.chr_pages)
