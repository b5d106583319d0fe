-- Worked cases of `record_at`, as one statement, which the contract of `examples` holds. Assumes nothing.
use Rattle.std.specs.Prelude.{ℕ, List, [], ◌∷◌, ◌≡◌}
use Rattle.answers.specs.declared.Refusal.TheVariants.{Kind, Number}
use Rattle.trace.specs.declared.Call.TheVariants.{Clock, CpuRead, CpuWrite, PpuRegister, PpuFetch, Reset, PpuWrite}
use Rattle.trace.specs.Records.{cpu, ppu, End, Record, Refused, record_at}

-- 01's worked input: 01 80 C0 03 02 85 A4 01 07 01 85 A4 01 01 86 A4 01 00 04 80 40.
abbrev pub worked : List ℕ
worked = 1 ∷ 128 ∷ 192 ∷ 3 ∷ 2 ∷ 133 ∷ 164 ∷ 1 ∷ 7 ∷ 1 ∷ 133 ∷ 164 ∷ 1 ∷ 1 ∷ 134 ∷ 164 ∷ 1 ∷ 0 ∷ 4 ∷ 128 ∷ 64 ∷ []

-- Its six records: $E000 read, $5205 = 7, $5205 and $5206 read, a clock, $2000 fetched.
pub record Worked : Type 0 where
  pub first : record_at worked 0 ≡ Record (CpuRead (cpu 57344)) 4
  pub second : record_at worked 4 ≡ Record (CpuWrite (cpu 20997) 7) 9
  pub third : record_at worked 9 ≡ Record (CpuRead (cpu 20997)) 13
  pub fourth : record_at worked 13 ≡ Record (CpuRead (cpu 20998)) 17
  pub fifth : record_at worked 17 ≡ Record Clock 18
  pub sixth : record_at worked 18 ≡ Record (PpuFetch (ppu 8192)) 21
  pub last : record_at worked 21 ≡ End

-- One record alone, of each kind.
pub record Kinds : Type 0 where
  pub clock : record_at (0 ∷ []) 0 ≡ Record Clock 1
  pub read : record_at (1 ∷ 5 ∷ []) 0 ≡ Record (CpuRead (cpu 5)) 2
  pub write : record_at (2 ∷ 133 ∷ 162 ∷ 1 ∷ 255 ∷ 1 ∷ []) 0 ≡ Record (CpuWrite (cpu 20741) 255) 6
  pub register : record_at (3 ∷ 129 ∷ 64 ∷ 24 ∷ []) 0 ≡ Record (PpuRegister (cpu 8193) 24) 4
  pub fetch : record_at (4 ∷ 255 ∷ 127 ∷ []) 0 ≡ Record (PpuFetch (ppu 16383)) 3
  pub reset : record_at (0 ∷ 5 ∷ 0 ∷ []) 1 ≡ Record Reset 2
  pub stored : record_at (6 ∷ 0 ∷ 128 ∷ 1 ∷ []) 0 ≡ Record (PpuWrite (ppu 0) 128) 4
  pub seventh : record_at (7 ∷ []) 0 ≡ Refused Kind
  pub top_bit : record_at (128 ∷ 1 ∷ []) 0 ≡ Refused Kind

-- The edges of numbers.
pub record Edges : Type 0 where
  pub nothing : record_at [] 0 ≡ End
  pub past : record_at (0 ∷ []) 2 ≡ End
  pub zero : record_at (1 ∷ 0 ∷ []) 0 ≡ Record (CpuRead (cpu 0)) 2
  pub largest_address : record_at (1 ∷ 255 ∷ 255 ∷ 3 ∷ []) 0 ≡ Record (CpuRead (cpu 65535)) 4
  pub address_above : record_at (1 ∷ 128 ∷ 128 ∷ 4 ∷ []) 0 ≡ Refused Number
  pub fourth_group : record_at (1 ∷ 255 ∷ 255 ∷ 131 ∷ 1 ∷ []) 0 ≡ Refused Number
  pub largest_value : record_at (2 ∷ 0 ∷ 255 ∷ 1 ∷ []) 0 ≡ Record (CpuWrite (cpu 0) 255) 4
  pub value_above : record_at (2 ∷ 0 ∷ 128 ∷ 2 ∷ []) 0 ≡ Refused Number
  pub third_group : record_at (2 ∷ 0 ∷ 128 ∷ 129 ∷ 0 ∷ []) 0 ≡ Refused Number
  pub cut_address : record_at (1 ∷ 128 ∷ []) 0 ≡ Refused Number
  pub no_address : record_at (4 ∷ []) 0 ≡ Refused Number
  pub no_value : record_at (2 ∷ 5 ∷ []) 0 ≡ Refused Number
  pub padded : record_at (1 ∷ 133 ∷ 0 ∷ []) 0 ≡ Refused Number
  pub padded_twice : record_at (1 ∷ 133 ∷ 128 ∷ 0 ∷ []) 0 ≡ Refused Number
  pub padded_value : record_at (2 ∷ 5 ∷ 135 ∷ 0 ∷ []) 0 ≡ Refused Number

pub record Examples : Type 0 where
  pub worked_input : Worked
  pub kinds : Kinds
  pub edges : Edges
