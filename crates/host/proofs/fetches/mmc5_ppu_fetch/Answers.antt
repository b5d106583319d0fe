-- A shut gate and a line counter at its limit are refused and leave the words; else the groups that the fetch changes are put back.
use mathlib.Core.Bool.{true, false}
use mathlib.Core.Path.{sym, ap, ◌∙◌}
use Rattle.memory.specs.Bytes.{mem_of}
use Rattle.scanline.proofs.RangeLaws.{uncounted}
use Rattle.state.specs.declared.PpuStatus.{PpuStatus}
use Rattle.board.specs.declared.Outcome.{Outcome}
use Rattle.board_ppu.proofs.Made.{fetch_refused}
use Rattle.theorems_promises.proofs.Promised.{who_is_refused}
use Rattle.host_state.specs.Words.{state_of}
use Rattle.host.proofs.HostLaws.{refused_left, shut_said, open_said, open_in_range, status_said}
use Rattle.host.proofs.FetchLaws.{counter_said, groups_ranged, counted_left, other_left}
use Rattle.host.proofs.fetches.mmc5_ppu_fetch.Goals as goal

pub returns-in-Err : goal.returns-in-Err
returns-in-Err c =
    let a = c.args in
    let w = a.words.now in
    let m = mem_of a.prg.now a.chr.now a.ram.now a.ciram.now a.exram.now in
    let shut = shut_said w m _ _ c.passed-gate.ensures c.in-Err.is in
    refused_left w _ _ _ (ap (λ (o : Outcome). o.answer) (who_is_refused.fetch_shut (state_of w) m _ _ shut)) c.plain.ensures

pub returns-then-counter_refused : goal.returns-then-counter_refused
returns-then-counter_refused c =
    let a = c.args in
    let w = a.words.now in
    let m = mem_of a.prg.now a.chr.now a.ram.now a.ciram.now a.exram.now in
    let passed = open_said w m _ c.passed-gate.ensures c.in_default.is in
    let at-limit =
    counter_said (state_of w) _ _ true _ c.detector_of-irq.ensures c.counter_refused.ensures c.if-counter_refused.true
    in
    refused_left w _ _ _ (ap (λ (o : Outcome). o.answer) (fetch_refused (state_of w) m passed _ at-limit)) c.plain-then-counter_refused.ensures

pub count_fetch-counted-requires : goal.count_fetch-counted-requires
count_fetch-counted-requires c =
    let a = c.args in
    let w = a.words.now in
    let m = mem_of a.prg.now a.chr.now a.ram.now a.ciram.now a.exram.now in
    let ranged = open_in_range w m (open_said w m _ c.passed-gate.ensures c.in_default.is) in
    groups_ranged (state_of w) _ _ ranged c.detector_of-irq.ensures (status_said w _ ranged c.status_of-ppu.ensures)

pub returns-then-counted : goal.returns-then-counted
returns-then-counted c =
    let a = c.args in
    let w = a.words.now in
    let m = mem_of a.prg.now a.chr.now a.ram.now a.ciram.now a.exram.now in
    let passed = open_said w m _ c.passed-gate.ensures c.in_default.is in
    let in-limit =
    counter_said (state_of w) _ _ false _ c.detector_of-irq.ensures c.counter_refused.ensures c.if-counter_refused.false
    in
    counted_left w m _ _ _ _ _ c.told-words passed in-limit
    c.regs_of-regs.ensures c.detector_of-irq.ensures c.status_of-ppu.ensures c.split_of-vsplit.ensures
    _ _ _ _ _ _ _ _ _ (sym c.counted.ensures ∙ c.if-counted.true)
    c.count_fetch-counted.ensures.0 c.count_fetch-counted.ensures.1.0 c.count_fetch-counted.ensures.1.1
    c.chr_word-word.ensures c.counted_answer-answer.ensures
    c.put_detector.ensures c.put_tiles.ensures c.put_region.ensures c.with_interrupt.ensures

pub map_on_change-requires : goal.map_on_change-requires
map_on_change-requires c =
    let a = c.args in
    let w = a.words.now in
    let m = mem_of a.prg.now a.chr.now a.ram.now a.ciram.now a.exram.now in
    let ranged = open_in_range w m (open_said w m _ c.passed-gate.ensures c.in_default.is) in (
      ranged,
      ap (λ (p : PpuStatus). p.bg_set) (status_said w _ ranged c.status_of-ppu.ensures),
    )

pub returns : goal.returns
returns c =
    let a = c.args in
    let w = a.words.now in
    let m = mem_of a.prg.now a.chr.now a.ram.now a.ciram.now a.exram.now in
    let passed = open_said w m _ c.passed-gate.ensures c.in_default.is in
    let other = sym c.counted.ensures ∙ c.if-counted.false in
    other_left w m _ _ _ _ _ c.told-words passed (uncounted _ _ other)
    c.regs_of-regs.ensures c.detector_of-irq.ensures c.status_of-ppu.ensures c.split_of-vsplit.ensures
    _ _ _ _ _ _ other
    c.chosen_at-chosen.ensures c.map_on_change.ensures c.chr_word-word-2.ensures
    c.other_answer-answer.ensures c.put_set.ensures c.with_interrupt-2.ensures
