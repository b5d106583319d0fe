-- The parameters of a function that is lent the five buffers, as statements about its contract look at them: each buffer, and what comes behind it.
-- A buffer that is lent to be read is a `Bor`, one that is lent to be changed a `MutBor`.
-- Assumes nothing.
use Rattle.std.specs.Prelude.{ℕ, List}
use Rattle.std.specs.Borrow.{Bor, MutBor}
use Rattle.memory.specs.Bytes.{Mem, mem_of}

-- A lent buffer, and what comes behind it; and one that is lent to be changed.
abbrev pub BufferThen : Type 0 → Type 0
BufferThen X = Bor (List ℕ) × X

abbrev pub ChangedThen : Type 0 → Type 0
ChangedThen X = MutBor (List ℕ) × X

-- Parameters that begin with the five buffers: the memory, and what comes behind it.
abbrev pub MemoryThen : Type 0 → Type 0
MemoryThen X = BufferThen (BufferThen (BufferThen (BufferThen (BufferThen X))))

-- The four buffers that a call may change, and what comes behind them.
abbrev pub FourThen : Type 0 → Type 0
FourThen X = ChangedThen (ChangedThen (ChangedThen (ChangedThen X)))

-- The memory that is lent to be read; and the memory of which all but PRG-ROM is lent to be changed.
abbrev pub mem_lent : {X : Type 0} → MemoryThen X → Mem
mem_lent a = mem_of a.0.now a.1.0.now a.1.1.0.now a.1.1.1.0.now a.1.1.1.1.0.now

abbrev pub mem_to_change : {X : Type 0} → BufferThen (FourThen X) → Mem
mem_to_change a = mem_of a.0.now a.1.0.now a.1.1.0.now a.1.1.1.0.now a.1.1.1.1.0.now

abbrev pub behind_memory : {A B C D E X : Type 0} → A × (B × (C × (D × (E × X)))) → X
behind_memory a = a.1.1.1.1.1

-- A look at lent memory: PRG-ROM, which no call changes ([] where a function is not lent it), and the four buffers with which these parameters begin.
abbrev pub mem_left : {X : Type 0} → List ℕ → FourThen X → Mem
mem_left prg e = mem_of prg e.0.now e.1.0.now e.1.1.0.now e.1.1.1.0.now
