-- `player::plays::play` meets its contract: the loop keeps what Steps states at its head, and each arm goes on, or stops, as Arms has it.
use mathlib.Core.Path.{◌≡◌, sym, ◌∙◌}
use native.Mathlib.Omega.{arith}
use Rattle.memory.specs.Bytes.{mem_of}
use Rattle.memory.proofs.ByteLaws.{stored_low}
use Rattle.scanline.proofs.RangeLaws.{ranges_kept, uncounted}
use Rattle.state.specs.With.{with_chr_pages}
use Rattle.state.proofs.SizeLaws.{lengths_say}
use Rattle.cpu.specs.Reads.{cpu_answer}
use Rattle.board_ppu.specs.Fetch.{pattern_pages}
use Rattle.board_ppu.specs.Peeks.{chr_answer}
use Rattle.steps.proofs.Idle.{prg_left, rest_left, write_idle, write_prg, write_rest}
use Rattle.board_ppu.proofs.Made.{pages_changed, pages_same}
use Rattle.player.proofs.Arms.{going_ranged, clock_arm, reset_arm, read_stop, read_arm, register_arm, write_stop, write_arm}
use Rattle.player.proofs.Arms.{fetch_stop, counted_arm, other_arm, ppu_write_arm}
use Rattle.player.proofs.Steps.{read, nearer, ends, unreadable}
use Rattle.player.proofs.plays.play.Goals as goal
use Rattle.player.proofs.plays.play.Goals.{then-set_changed, else-set_changed}

-- A clock.
pub clock-irq-requires : goal.clock-irq-requires
clock-irq-requires c = ranges_kept.idle_fits _ (going_ranged c.loop-record.invariant).detector

pub loop-record-smaller-in-Clock : goal.loop-record-smaller-in-Clock
loop-record-smaller-in-Clock c = nearer _ _ _ _ (read c.record_at.ensures c.in-Ok-Some.is c.in-Ok-Some.field-0-is)

pub loop-record-preserved-in-Clock : goal.loop-record-preserved-in-Clock
loop-record-preserved-in-Clock c = clock_arm c.loop-record.invariant (read c.record_at.ensures c.in-Ok-Some.is c.in-Ok-Some.field-0-is) c.clock-irq.result c.in-Clock.is c.clock-irq.ensures c.log_record.new.log c.log_record.ensures

-- A CPU read: of an audio register, and past the test for these.
pub returns-then-audio_read : goal.returns-then-audio_read
returns-then-audio_read c = read_stop c.loop-record.invariant (read c.record_at.ensures c.in-Ok-Some.is c.in-Ok-Some.field-0-is) c.in-CpuRead.is (sym c.audio_read.ensures ∙ c.if-audio_read.true)

pub loop-record-smaller-in-CpuRead : goal.loop-record-smaller-in-CpuRead
loop-record-smaller-in-CpuRead c = nearer _ _ _ _ (read c.record_at.ensures c.in-Ok-Some.is c.in-Ok-Some.field-0-is)

pub loop-record-preserved-in-CpuRead : goal.loop-record-preserved-in-CpuRead
unfolding cpu_answer
loop-record-preserved-in-CpuRead c =
    read_arm c.loop-record.invariant (read c.record_at.ensures c.in-Ok-Some.is c.in-Ok-Some.field-0-is) c.read-answer.result c.irq_read-irq.result c.in-CpuRead.is (sym c.audio_read.ensures ∙ c.if-audio_read.false)
    c.read-answer.ensures c.irq_read-irq.ensures c.log_record-in-CpuRead.new.log c.log_record-in-CpuRead.ensures

-- A CPU write: of an audio register; of none; of one that maps PRG; of any other.
pub returns-then-audio_write : goal.returns-then-audio_write
returns-then-audio_write c = write_stop c.loop-record.invariant (read c.record_at.ensures c.in-Ok-Some.is c.in-Ok-Some.field-0-is) c.in-CpuWrite.is (sym c.audio_write.ensures ∙ c.if-audio_write.true)

pub loop-record-smaller-then-not-is_within : goal.loop-record-smaller-then-not-is_within
loop-record-smaller-then-not-is_within c = nearer _ _ _ _ (read c.record_at.ensures c.in-Ok-Some.is c.in-Ok-Some.field-0-is)

pub loop-record-preserved-then-not-is_within : goal.loop-record-preserved-then-not-is_within
loop-record-preserved-then-not-is_within c =
    write_arm c.loop-record.invariant (read c.record_at.ensures c.in-Ok-Some.is c.in-Ok-Some.field-0-is) c.loop-record.t (mem_of c.args.prg.now c.store.new.chr c.store.new.ram c.store.new.ciram c.store.new.exram) c.in-CpuWrite.is (sym c.audio_write.ensures ∙ c.if-audio_write.false)
    (write_idle c.in-CpuWrite.addr.0 (sym c.is_within.ensures ∙ c.if-not-is_within.true) c.loop-record.t c.in-CpuWrite.val)
    (c.store.ensures _) c.log_record-then-not-is_within.new.log c.log_record-then-not-is_within.ensures

pub map_prg-pages-requires : goal.map_prg-pages-requires
map_prg-pages-requires c =
    let t = lengths_say _ (going_ranged c.loop-record.invariant).lengths in
    (omega (arith, t.prg_whole), t.ram_whole)

pub loop-record-smaller-then-maps_prg : goal.loop-record-smaller-then-maps_prg
loop-record-smaller-then-maps_prg c = nearer _ _ _ _ (read c.record_at.ensures c.in-Ok-Some.is c.in-Ok-Some.field-0-is)

pub loop-record-preserved-then-maps_prg : goal.loop-record-preserved-then-maps_prg
loop-record-preserved-then-maps_prg c =
    let s = c.loop-record.t in
    write_arm c.loop-record.invariant (read c.record_at.ensures c.in-Ok-Some.is c.in-Ok-Some.field-0-is) (prg_left s c.write-regs.result c.prg_banks_after-banks.result c.map_prg-pages.result) (mem_of c.args.prg.now c.store.new.chr c.store.new.ram c.store.new.ciram c.store.new.exram)
    c.in-CpuWrite.is (sym c.audio_write.ensures ∙ c.if-audio_write.false)
    (write_prg s c.in-CpuWrite.addr.0 c.in-CpuWrite.val _ _ _ (sym c.maps_prg.ensures ∙ c.if-maps_prg.true) c.write-regs.ensures c.prg_banks_after-banks.ensures c.map_prg-pages.ensures)
    (c.store.ensures _) c.log_record-then-maps_prg.new.log c.log_record-then-maps_prg.ensures

pub loop-record-smaller-in-CpuWrite : goal.loop-record-smaller-in-CpuWrite
loop-record-smaller-in-CpuWrite c = nearer _ _ _ _ (read c.record_at.ensures c.in-Ok-Some.is c.in-Ok-Some.field-0-is)

pub loop-record-preserved-in-CpuWrite : goal.loop-record-preserved-in-CpuWrite
loop-record-preserved-in-CpuWrite c =
    let s = c.loop-record.t in
    write_arm c.loop-record.invariant (read c.record_at.ensures c.in-Ok-Some.is c.in-Ok-Some.field-0-is)
    (rest_left s c.write-regs.result c.split_after-vsplit.result c.irq_after-irq.result c.ppu_after-ppu.result c.mirroring_after-mirroring.result
    c.chr_banks_after-banks.result c.chr_pages_after-pages.result c.exram_word-at_5c00.result) (mem_of c.args.prg.now c.store.new.chr c.store.new.ram c.store.new.ciram c.store.new.exram)
    c.in-CpuWrite.is (sym c.audio_write.ensures ∙ c.if-audio_write.false)
    (write_rest s c.in-CpuWrite.addr.0 c.in-CpuWrite.val _ _ _ _ _ _ _ _ (sym c.maps_prg.ensures ∙ c.if-maps_prg.false)
    c.write-regs.ensures c.split_after-vsplit.ensures c.irq_after-irq.ensures c.ppu_after-ppu.ensures c.mirroring_after-mirroring.ensures
    c.chr_banks_after-banks.ensures c.chr_pages_after-pages.ensures c.exram_word-at_5c00.ensures)
    (c.store.ensures _) c.log_record-in-CpuWrite.new.log c.log_record-in-CpuWrite.ensures

-- A write of a PPU register.
pub loop-record-smaller-in-PpuRegister : goal.loop-record-smaller-in-PpuRegister
loop-record-smaller-in-PpuRegister c = nearer _ _ _ _ (read c.record_at.ensures c.in-Ok-Some.is c.in-Ok-Some.field-0-is)

pub loop-record-preserved-in-PpuRegister : goal.loop-record-preserved-in-PpuRegister
loop-record-preserved-in-PpuRegister c =
    register_arm c.loop-record.invariant (read c.record_at.ensures c.in-Ok-Some.is c.in-Ok-Some.field-0-is) c.status_after-ppu.result c.detector_after-irq.result c.in-PpuRegister.is
    c.status_after-ppu.ensures c.detector_after-irq.ensures c.log_record-in-PpuRegister.new.log c.log_record-in-PpuRegister.ensures

-- A PPU fetch that counts: past the line counter's limit, and within it.
pub returns-then-counter_refused : goal.returns-then-counter_refused
returns-then-counter_refused c = fetch_stop c.loop-record.invariant (read c.record_at.ensures c.in-Ok-Some.is c.in-Ok-Some.field-0-is) c.in-PpuFetch.is (sym c.counter_refused.ensures ∙ c.if-counter_refused.true)

pub count_fetch-groups-requires : goal.count_fetch-groups-requires
count_fetch-groups-requires c = let k = going_ranged c.loop-record.invariant in (k.detector, k.tiles)

pub loop-record-smaller-then-counted : goal.loop-record-smaller-then-counted
loop-record-smaller-then-counted c = nearer _ _ _ _ (read c.record_at.ensures c.in-Ok-Some.is c.in-Ok-Some.field-0-is)

pub loop-record-preserved-then-counted : goal.loop-record-preserved-then-counted
unfolding chr_answer
loop-record-preserved-then-counted c =
    let n = c.count_fetch-groups in
    counted_arm c.loop-record.invariant (read c.record_at.ensures c.in-Ok-Some.is c.in-Ok-Some.field-0-is) n.result.irq n.result.ppu n.result.vsplit c.counted_answer-answer.result c.in-PpuFetch.is
    (sym c.counter_refused.ensures ∙ c.if-counter_refused.false) (sym c.counted.ensures ∙ c.if-counted.true)
    n.ensures.0 n.ensures.1.0 n.ensures.1.1 c.counted_answer-answer.ensures c.log_record-then-counted.new.log c.log_record-then-counted.ensures

-- Any other fetch: past it the CHR table is the chosen set's.
pub loop-record-smaller-in-PpuFetch : goal.loop-record-smaller-in-PpuFetch
loop-record-smaller-in-PpuFetch c = nearer _ _ _ _ (read c.record_at.ensures c.in-Ok-Some.is c.in-Ok-Some.field-0-is)

pub loop-record-preserved-in-PpuFetch : goal.loop-record-preserved-in-PpuFetch
unfolding chr_answer
loop-record-preserved-in-PpuFetch c =
    let n = sym c.counted.ensures ∙ c.if-counted.false in let s = c.loop-record.t in let t = c.if-set_changed.t in
    let set = c.chosen_at-ppu.result.bg_set in let d = c.set_changed in
    let shown : t ≡ with_chr_pages s (pattern_pages s set) =
    elim c.if-set_changed.branch [
      | then-set_changed x ↦ pages_changed s t set d.result d.ensures x.map_chr-pages.result x.if-set_changed.true x.map_chr-pages.ensures x.t-is
      | else-set_changed x ↦ pages_same s t set d.result d.ensures x.if-set_changed.false x.t-is
    ] in
    other_arm c.loop-record.invariant (read c.record_at.ensures c.in-Ok-Some.is c.in-Ok-Some.field-0-is) c.chosen_at-ppu.result t c.other_answer-answer.result c.in-PpuFetch.is
    (uncounted _ _ n) n c.chosen_at-ppu.ensures shown c.other_answer-answer.ensures c.log_record-in-PpuFetch.new.log c.log_record-in-PpuFetch.ensures

-- A reset.
pub loop-record-smaller-in-Reset : goal.loop-record-smaller-in-Reset
loop-record-smaller-in-Reset c = nearer _ _ _ _ (read c.record_at.ensures c.in-Ok-Some.is c.in-Ok-Some.field-0-is)

pub loop-record-preserved-in-Reset : goal.loop-record-preserved-in-Reset
loop-record-preserved-in-Reset c =
    reset_arm c.loop-record.invariant (read c.record_at.ensures c.in-Ok-Some.is c.in-Ok-Some.field-0-is) c.reset-regs.result c.in-Reset.is c.reset-regs.ensures c.log_record-in-Reset.new.log c.log_record-in-Reset.ensures

-- A PPU write.
pub loop-record-smaller : goal.loop-record-smaller
loop-record-smaller c = nearer _ _ _ _ (read c.record_at.ensures c.in-Ok-Some.is c.in-Ok-Some.field-0-is)

pub loop-record-preserved : goal.loop-record-preserved
loop-record-preserved c =
    let l = c.store-in-PpuWrite.new in
    ppu_write_arm c.loop-record.invariant (read c.record_at.ensures c.in-Ok-Some.is c.in-Ok-Some.field-0-is) (mem_of c.args.prg.now l.chr l.ram l.ciram l.exram)
    c.in-PpuWrite.is (c.store-in-PpuWrite.ensures _ ∙ stored_low _ _ _ _) c.log_record-in-PpuWrite.new.log c.log_record-in-PpuWrite.ensures

-- The trace's end, and a record that cannot be read.
pub returns-in-Ok-None : goal.returns-in-Ok-None
returns-in-Ok-None c = ends _ _ _ _ _ _ _ _ _ c.loop-record.invariant (read c.record_at.ensures c.in-Ok-None.is c.in-Ok-None.field-0-is)

pub returns-in-Err : goal.returns-in-Err
returns-in-Err c = unreadable _ _ _ _ _ _ _ _ _ _ c.loop-record.invariant (sym c.record_at.ensures ∙ c.in-Err.is)
