-- What a call does where it is accepted: behind an open gate, and where it meets no refusal. The fetch is handed in, so that one list serves the board and,
-- in crate `theorems_folds`, the board with the full tile count.
-- Assumes nothing.
use Rattle.std.specs.Prelude.{ℕ}
use Rattle.memory.specs.Bytes.{Mem, page_stored}
use Rattle.memory.specs.PageWords.{page_of}
use Rattle.answers.specs.declared.Answer.TheVariants.{Nothing}
use Rattle.scanline.specs.Steps.{clocked}
use Rattle.state.specs.declared.State.{State}
use Rattle.state.specs.With.{with_irq, with_regs}
use Rattle.cpu.specs.Reads.{cpu_answer, irq_read}
use Rattle.cpu.specs.Writes.{register_written, cpu_stored}
use Rattle.board.specs.declared.Outcome.{Outcome}
use Rattle.board.specs.Outcomes.{outcome, After, after_of}
use Rattle.registers.specs.Registers.{reset_regs}
use Rattle.board.specs.StateCalls.{ppu_register_written}
use Rattle.board_ppu.specs.Peeks.{chr_word_at}
use Rattle.trace.specs.declared.Call.{Call}
use Rattle.trace.specs.declared.Call.TheVariants.{Clock, CpuRead, CpuWrite, PpuRegister, PpuFetch, Reset, PpuWrite}

abbrev pub done_with : (State → Mem → ℕ → Outcome) → Call → State → Mem → After
done_with fetched Clock s m = after_of (outcome Nothing (with_irq s (clocked s.irq))) m
done_with fetched (CpuRead a) s m = after_of (outcome (cpu_answer s m a.0) (with_irq s (irq_read s.irq a.0))) m
done_with fetched (CpuWrite a v) s m = after_of (outcome Nothing (register_written s a.0 v)) (cpu_stored s m a.0 v)
done_with fetched (PpuRegister a v) s m = after_of (outcome Nothing (ppu_register_written s a.0 v)) m
done_with fetched (PpuFetch a) s m = after_of (fetched s m a.0) m
done_with fetched Reset s m = after_of (outcome Nothing (with_regs s (reset_regs s.regs))) m
done_with fetched (PpuWrite a v) s m = after_of (outcome Nothing s) (page_stored m (page_of (chr_word_at s.chr_pages a.0)) a.0 v)
