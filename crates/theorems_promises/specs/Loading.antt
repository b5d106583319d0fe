-- Load's refusals, 1 to 3. "A refusal has one number from 01, is given exactly when 01 says"; "Checks run in that order"; "A refused load yields a
-- zero state marked not loaded." The four cases leave none out and do not meet, so each number is given exactly then. That load writes no byte is
-- in its contract: it takes the five buffers to read.
use Rattle.std.specs.Prelude.{ℕ, Bool, true, false, ◌≡◌, length}
use Rattle.memory.specs.Bytes.{Mem}
use Rattle.answers.specs.declared.Answer.TheVariants.{Nothing}
use Rattle.answers.specs.declared.Refusal.TheVariants.{State as StateBroken}
use Rattle.answers.specs.Letters.{letter_of, value_of}
use Rattle.registers.specs.declared.Mirroring.{Mirroring}
use Rattle.state.specs.Gate.{Shut, gate_mem}
use Rattle.state.specs.Lengths.{prg_taken, chr_taken, ram_taken}
use Rattle.state.specs.Ranges.{in_range}
use Rattle.board.specs.declared.Outcome.{Outcome}
use Rattle.board.specs.Loads.{zero_state, recorded, load_call}

-- The refusal with the number n.
pub record NotLoaded (n : ℕ) (o : Outcome) : Type 0 where
  pub letter : letter_of o.answer ≡ 0x21
  pub number : value_of o.answer ≡ n
  pub zero : o.state ≡ zero_state
  pub marked : o.state.lengths.loaded ≡ false

-- Of a buffer's length, refused where the test is false: 1, "PRG-ROM not a multiple of 8,192 bytes from 8,192 to 1,048,576"; 2, "CHR not a multiple of 1,024 from 0 to
-- 1,048,576"; 3, "PRG-RAM not a multiple of 1,024 from 0 to 65,536, CIRAM not 2,048 or ExRAM not 1,024".
abbrev pub good_prg : Mem → Bool
good_prg m = prg_taken (length m.prg)

abbrev pub good_chr : Mem → Bool
good_chr m = chr_taken (length m.chr)

abbrev pub good_ram : Mem → Bool
good_ram m = ram_taken (length m.ram) (length m.ciram) (length m.exram)

pub record LoadRefusals : Type 0 where
  pub prg : (m : Mem) (as_ram : Bool) (mirroring : Mirroring) → good_prg m ≡ false → NotLoaded 1 (load_call m as_ram mirroring)
  pub chr : (m : Mem) (as_ram : Bool) (mirroring : Mirroring) → good_prg m ≡ true → good_chr m ≡ false → NotLoaded 2 (load_call m as_ram mirroring)
  pub ram : (m : Mem) (as_ram : Bool) (mirroring : Mirroring) → good_prg m ≡ true → good_chr m ≡ true → good_ram m ≡ false → NotLoaded 3 (load_call m as_ram mirroring)
  pub accepted : (m : Mem) (as_ram : Bool) (mirroring : Mirroring) → good_prg m ≡ true → good_chr m ≡ true → good_ram m ≡ true → (load_call m as_ram mirroring).answer ≡ Nothing
  -- an accepted load records the lengths, and whether CHR is writable
  pub recorded_so : (m : Mem) (as_ram : Bool) (mirroring : Mirroring) → (load_call m as_ram mirroring).answer ≡ Nothing → (load_call m as_ram mirroring).state.lengths ≡ recorded m as_ram
  -- "a state not loaded gives 5 before 4": every call on the zero state, whatever is lent
  pub then_five : (m : Mem) → gate_mem zero_state m ≡ Shut StateBroken
  pub then_five_alone : in_range zero_state ≡ false
