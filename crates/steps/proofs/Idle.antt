-- Which groups a CPU call leaves as they are, by its address. The registers lie from $5100 to $5206: outside a read answers the page and a write
-- changes no group; and a write that maps PRG pages changes nothing of the other side.
use Prim.Native.Nat.{ℕ, zero, suc, ◌+◌, ◌/◌, ◌<◌}
use mathlib.Core.Bool.{Bool, true, false}
use mathlib.Core.List.{List}
use mathlib.Core.Path.{◌≡◌, refl, ◌∙◌, ap}
use native.Mathlib.Omega.{arith}
use Rattle.std.proofs.lemmas.Grind.{common_steps}
use lib.Dec.{eqb}
use lib.ListN.{get_or, set}
use lib.Seq.{set-get_or, get_or-set_other}
use Rattle.memory.specs.declared.PageWord.{PageWord}
use Rattle.memory.specs.PageWords.{word}
use Rattle.memory.proofs.Tests.{split, pick_keeps}
use Rattle.answers.specs.declared.Answer.{Answer}
use Rattle.registers.specs.declared.Mirroring.{Mirroring}
use Rattle.registers.specs.declared.Regs.{Regs}
use Rattle.registers.specs.Mirrorings.{mirroring_after}
use Rattle.registers.specs.Registers.{written}
use Rattle.scanline.specs.declared.Detector.{Detector}
use Rattle.split.specs.declared.VSplit.{VSplit}
use Rattle.banks.specs.Placed.{placed}
use Rattle.banks.specs.Prg.{prg_mapped}
use Rattle.state.specs.declared.PpuStatus.{PpuStatus}
use Rattle.state.specs.declared.State.{State}
use Rattle.cpu.specs.Chosen.{chosen, ppu_after}
use Rattle.cpu.specs.Groups.{within, split_after, irq_after, prg_banks_after, chr_banks_after}
use Rattle.cpu.specs.Reads.{register_at, register_read}
use Rattle.cpu.specs.Writes.{maps_prg, prg_pages_after, chr_pages_after, register_written, prg_word_at}
use Rattle.steps.specs.Sides.{exram_word, chosen_at}

-- No register is read.
pub read_idle : (a : ℕ) → within 0x5100 0x5206 a ≡ false
    → (g : Regs) (v : VSplit) (d : Detector) (prg chr : List ℕ) (page : Answer) → register_read g v d prg chr a page ≡ page
unfolding register_read register_at
read_idle a o g v d prg chr page = grind (arith, common_steps)

-- No group is written.
pub write_idle : (a : ℕ) → within 0x5100 0x5206 a ≡ false → (s : State) (v : ℕ) → register_written s a v ≡ s
unfolding register_written written split_after irq_after ppu_after prg_banks_after chr_banks_after prg_pages_after chr_pages_after
write_idle a o s v = grind (arith, common_steps)

-- A state with the groups that a write which maps PRG pages leaves, and with those that any other leaves.
abbrev pub prg_left : State → Regs → List ℕ → List PageWord → State
prg_left s g b pages =
    record {
      lengths = s.lengths;
      regs = g;
      vsplit = s.vsplit;
      irq = s.irq;
      ppu = s.ppu;
      screen = s.screen;
      prg_banks = b;
      chr_banks = s.chr_banks;
      prg_pages = pages;
      chr_pages = s.chr_pages;
    }

abbrev pub rest_left : State → Regs → VSplit → Detector → PpuStatus → Mirroring → List ℕ → List PageWord → PageWord → State
rest_left s g w d p r b pages x =
    record {
      lengths = s.lengths;
      regs = g;
      vsplit = w;
      irq = d;
      ppu = p;
      screen = record { mirroring = r };
      prg_banks = s.prg_banks;
      chr_banks = b;
      prg_pages = set s.prg_pages 23 x;
      chr_pages = pages;
    }

module _ (s : State) (a v : ℕ) where
  -- A write that maps PRG pages: the registers, the PRG banks and the PRG table, and nothing else.
  pub write_prg_is : maps_prg a ≡ true
      → register_written s a v
      ≡ prg_left s (written s.regs a v) (prg_banks_after s.prg_banks a v)
      (prg_mapped s.lengths.prg s.lengths.ram (written s.regs a v) (prg_banks_after s.prg_banks a v) s.prg_pages)
  unfolding register_written split_after irq_after ppu_after chr_banks_after prg_pages_after chr_pages_after
  write_prg_is t = grind (arith, common_steps)

  -- Any other write leaves the PRG banks, and of the PRG table all but ExRAM's page.
  pub write_rest_is : maps_prg a ≡ false
      → register_written s a v
      ≡ rest_left s (written s.regs a v) (split_after s.vsplit a v) (irq_after s.irq a v) (ppu_after s.ppu s.irq.in_frame a)
      (mirroring_after s.screen.mirroring a v)
      (chr_banks_after s.chr_banks a v)
      (chr_pages_after s.lengths (written s.regs a v) (chr_banks_after s.chr_banks a v) (ppu_after s.ppu s.irq.in_frame a).bg_set s.chr_pages a)
      (exram_word (get_or s.prg_pages 23 (word 0)) (written s.regs a v).exram_mode a)
  unfolding register_written prg_banks_after prg_pages_after exram_word
  write_rest_is f = grind (arith, common_steps, set-get_or)

-- The same, by what the loop has in hand.
module _ (s : State) (a v : ℕ) where
  pub write_prg : (g : Regs) (b : List ℕ) (pages : List PageWord)
      → maps_prg a ≡ true
      → g ≡ written s.regs a v
      → b ≡ prg_banks_after s.prg_banks a v
      → pages ≡ prg_mapped s.lengths.prg s.lengths.ram g b s.prg_pages
      → register_written s a v ≡ prg_left s g b pages
  write_prg g b pages t eg eb epages = rw (epages, eb, eg) (write_prg_is s a v t)

  pub write_rest : (g : Regs) (w : VSplit) (d : Detector) (p : PpuStatus) (r : Mirroring) (b : List ℕ) (pages : List PageWord) (x : PageWord)
      → maps_prg a ≡ false
      → g ≡ written s.regs a v
      → w ≡ split_after s.vsplit a v
      → d ≡ irq_after s.irq a v
      → p ≡ ppu_after s.ppu s.irq.in_frame a
      → r ≡ mirroring_after s.screen.mirroring a v
      → b ≡ chr_banks_after s.chr_banks a v
      → pages ≡ chr_pages_after s.lengths g b p.bg_set s.chr_pages a
      → x ≡ exram_word (get_or s.prg_pages 23 (word 0)) g.exram_mode a
      → register_written s a v ≡ rest_left s g w d p r b pages x
  write_rest g w d p r b pages x f eg ew ed ep er eb epages ex = rw (ex, epages, eb, er, ep, ed, ew, eg) (write_rest_is s a v f)

-- No register maps the page that registers are written at, page 20.
placed_below : {A : Type 0} (l : List A) (at : ℕ) (f : ℕ → A) (n i : ℕ) (d : A) → i < at → get_or (placed l at f n) i d ≡ get_or l i d
unfolding placed
placed_below l at f zero i d h = refl
placed_below l at f (suc n) i d h = get_or-set_other (placed l at f n) (at + n) i (f n) d (λ e. absurd (omega (arith, h, e))) ∙ placed_below l at f n i d h

page_20 : (a : ℕ) → within 0x5100 0x5206 a ≡ true → a / 1024 ≡ 20
page_20 a t = grind (arith, common_steps)

pub word_kept : (s : State) (a v : ℕ) → prg_word_at (register_written s a v).prg_pages a ≡ prg_word_at s.prg_pages a
unfolding register_written prg_pages_after
word_kept s a v =
    split (within 0x5100 0x5206 a)
    (λ t. rw (page_20 a t)
    (pick_keeps (λ (l : List PageWord). get_or l 20 (word 0) ≡ get_or s.prg_pages 20 (word 0)) (maps_prg a) (placed_below s.prg_pages 24 _ 40 20 (word 0) (omega arith))
    (pick_keeps (λ (l : List PageWord). get_or l 20 (word 0) ≡ get_or s.prg_pages 20 (word 0)) (eqb a 0x5104) (get_or-set_other s.prg_pages 23 20 _ (word 0) (λ e. absurd (omega (arith, e)))) refl)))
    (λ f. ap (λ (q : State). prg_word_at q.prg_pages a) (write_idle a f s v))

-- Of a status the two fields that a fetch which does not count can change; it changes no other.
abbrev pub set_fields : PpuStatus → PpuStatus → PpuStatus
set_fields p q =
    record { tile_number = p.tile_number; tile_cache = p.tile_cache; sprite8x16 = p.sprite8x16; rendering = p.rendering; bg_set = q.bg_set; bg_written = q.bg_written }

pub chosen_changes : (p : PpuStatus) (framed : Bool) (a : ℕ) → chosen_at p framed a ≡ set_fields p (chosen_at p framed a)
unfolding chosen_at chosen
chosen_changes p framed a = grind (arith, common_steps)
