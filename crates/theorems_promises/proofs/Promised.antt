-- The two promises, put together from the laws of each call.
use Prim.Native.Nat.{ℕ, ◌/◌}
use mathlib.Core.Bool.{Bool, false, ◌&&◌, ◌||◌, not}
use mathlib.Core.List.{List}
use mathlib.Core.Path.{◌≡◌, refl}
use lib.Dec.{eqb, leb, ltb}
use Rattle.memory.specs.declared.PageWord.{PageWord}
use Rattle.memory.specs.Bytes.{Mem, page_byte}
use Rattle.memory.specs.PageWords.{page_of}
use Rattle.memory.proofs.Tests.{split, pick_keeps}
use Rattle.answers.specs.declared.Answer.{Answer}
use Rattle.answers.specs.declared.Refusal.{Refusal}
use Rattle.answers.specs.declared.Refusal.TheVariants.{Audio, Counter, State as StateBroken}
use Rattle.answers.specs.Numbers.{number_of}
use Rattle.registers.specs.declared.Regs.{Regs}
use Rattle.registers.specs.Registers.{attribute_use, nametable_use}
use Rattle.banks.specs.Names.{selector}
use Rattle.scanline.specs.declared.Detector.{Detector}
use Rattle.scanline.specs.Fetches.{counted_at, attribute_at}
use Rattle.scanline.specs.Ranges.{counter_refused}
use Rattle.scanline.specs.Tiles.{sprite_fetch}
use Rattle.split.specs.declared.VSplit.{VSplit}
use Rattle.state.specs.declared.PpuStatus.{PpuStatus}
use Rattle.state.specs.declared.State.{State}
use Rattle.state.specs.Gate.{Open, gate_mem}
use Rattle.cpu.specs.Reads.{page_answer, cpu_answer, audio_read}
use Rattle.ppu.specs.Served.{split_serves, counted_served, pattern_served}
use Rattle.ppu.proofs.ServedLaws.{counted_is, pattern_is}
use Rattle.board.specs.declared.Outcome.{Outcome}
use Rattle.board.specs.CpuSide.{cpu_read, cpu_peek, cpu_write}
use Rattle.board.specs.StateCalls.{reset_call, clock_call, ppu_register_call, mirroring_call, interrupt_call}
use Rattle.board.specs.Outcomes.{refused}
use Rattle.board_ppu.specs.Counted.{counted_irq, counted_ppu, counted_split}
use Rattle.board_ppu.specs.Fetch.{pattern_call, ppu_fetch}
use Rattle.board_ppu.proofs.Made.{counted_by_groups}
use Rattle.board_ppu.specs.Peeks.{chr_word_at, chr_answer, ppu_peek, sprite_peek, ppu_write}
use Rattle.theorems_promises.specs.Kept.{GateStaysOpen}
use Rattle.theorems_promises.specs.Refused.{RefusedWith, WhoIsRefused}
use Rattle.theorems_promises.proofs.Fetching.{fetch_open, ppu_write_open}
use Rattle.theorems_promises.proofs.Gates.{in_range_of, read_open, write_open, reset_open, clock_open, register_open, load_open}
use Rattle.theorems_promises.proofs.Refusals.{Given, shown_is_given, answer_is_given, same_behind}

pub gate_stays_open : GateStaysOpen
gate_stays_open =
    record {
      load = load_open;
      read = λ s m a h. read_open s m h a;
      write = λ s m a v h. write_open s m h a v;
      reset = λ s m h. reset_open s m h;
      clock = λ s m h. clock_open s m h;
      register = λ s m a v h. register_open s m h a v;
      fetch = λ s m a h. fetch_open s m h a;
      ppu_write_call = λ s m a v h. ppu_write_open s m h a v;
      ranged = in_range_of;
    }

-- What is served, and what a page answers, is no refusal.
page_is_given : (pages : List PageWord) (m : Mem) (a : ℕ) → Given (chr_answer pages m a)
unfolding chr_answer page_answer
page_is_given pages m a = shown_is_given (page_of (chr_word_at pages a)).src (page_byte m (page_of (chr_word_at pages a)) a)

name_is_given : (g : Regs) (v : VSplit) (f : Bool) (p : PpuStatus) (e : List ℕ) (a : ℕ) (x : Answer) → Given x → Given (counted_served g v f p e a x)
name_is_given g v f p e a x h =
    rw (counted_is g v f p e a x)
    (pick_keeps Given (split_serves g v f) refl
    (pick_keeps Given (attribute_use g && (attribute_at a && not (sprite_fetch p.tile_number))) refl
    (pick_keeps Given (nametable_use g && eqb (selector g.nametables (a / 1024)) 3) refl h)))

pattern_is_given : (g : Regs) (v : VSplit) (d : Detector) (p : PpuStatus) (e c : List ℕ) (a : ℕ) (x : Answer) → Given x → Given (pattern_served g v d p e c a x)
pattern_is_given g v d p e c a x h =
    rw (pattern_is g v d p e c a x)
    (pick_keeps Given (split_serves g v d.in_frame) refl (pick_keeps Given (attribute_use g && not (sprite_fetch p.tile_number)) refl h))

fetch_is_given : (s : State) (m : Mem) (a : ℕ) → gate_mem s m ≡ Open → counter_refused s.irq a ≡ false → Given (ppu_fetch s m a).answer
unfolding ppu_fetch pattern_call
fetch_is_given s m a h free =
    rw (h, free)
    (split (counted_at a)
    (λ counts. rw (counts, counted_by_groups s m a) (name_is_given s.regs (counted_split s a) (counted_irq s a).in_frame (counted_ppu s a) m.exram a _ (page_is_given s.chr_pages m a)))
    (λ no. rw no
    (split (ltb a 0x2000)
    (λ low. rw low (pattern_is_given s.regs s.vsplit s.irq _ m.exram m.chr a _ (page_is_given _ m a)))
    (λ high. rw high (page_is_given s.chr_pages m a)))))

peek_is_given : (s : State) (m : Mem) (a : ℕ) → gate_mem s m ≡ Open → Given (ppu_peek s m a)
unfolding ppu_peek
peek_is_given s m a h =
    rw h
    (pick_keeps Given (counted_at a) (name_is_given s.regs s.vsplit s.irq.in_frame s.ppu m.exram a _ (page_is_given s.chr_pages m a))
    (pick_keeps Given (ltb a 0x2000) (pattern_is_given s.regs s.vsplit s.irq s.ppu m.exram m.chr a _ (page_is_given s.chr_pages m a))
    (page_is_given s.chr_pages m a)))

sprite_is_given : (s : State) (m : Mem) (a : ℕ) → gate_mem s m ≡ Open → Given (sprite_peek s m a)
unfolding sprite_peek
sprite_is_given s m a h = rw h (pick_keeps Given (not s.ppu.sprite8x16 || leb 0x2000 a) refl refl)

refused_with : (r : Refusal) (s : State) (o : Outcome) → o ≡ refused s r → RefusedWith (number_of r) s o
refused_with r s o e = rw e (record { letter = refl; number = refl; given_back = refl })

pub who_is_refused : WhoIsRefused
unfolding cpu_read cpu_peek cpu_write reset_call clock_call ppu_register_call mirroring_call interrupt_call ppu_fetch ppu_peek sprite_peek ppu_write
who_is_refused =
    record {
      read_audio = λ s m a h e. refused_with Audio s (cpu_read s m a) (rw (h, e));
      read_else = λ s m a h e. rw (h, e) (answer_is_given s m a);
      peek = λ s m a. same_behind (gate_mem s m) s (audio_read a) (cpu_answer s m a) _;
      write_audio = λ s m a v h e. refused_with Audio s (cpu_write s m a v).out (rw (h, e));
      write_audio_bytes = λ s m a v h e. rw (h, e);
      write_else = λ s m a v h e. rw (h, e);
      fetch_counter = λ s m a h e. refused_with Counter s (ppu_fetch s m a) (rw (h, e));
      fetch_else = fetch_is_given;
      ppu_peek_call = peek_is_given;
      sprite_peek_call = sprite_is_given;
      ppu_write_call = λ s m a v h. rw h;
      reset = λ s h. rw h;
      clock = λ s h. rw h;
      register = λ s a v h. rw h;
      mirroring = λ s h. rw h;
      interrupt = λ s h. rw h;
      read_shut = λ s m a r h. rw h;
      write_shut = λ s m a v r h. rw h;
      fetch_shut = λ s m a r h. rw h;
      ppu_peek_shut = λ s m a r h. rw h;
      sprite_peek_shut = λ s m a r h. rw h;
      ppu_write_shut = λ s m a v r h. rw h;
      reset_broken = λ s h. refused_with StateBroken s (reset_call s) (rw h);
      clock_broken = λ s h. refused_with StateBroken s (clock_call s) (rw h);
      register_broken = λ s a v h. refused_with StateBroken s (ppu_register_call s a v) (rw h);
      mirroring_broken = λ s h. rw h;
      interrupt_broken = λ s h. rw h;
      broken_is_five = refl;
    }
