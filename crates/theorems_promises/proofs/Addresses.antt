-- The split tile's address stays at 959 or less: it is one of the ranges that every call keeps.
use Prim.Native.Nat.{ℕ, ◌≤◌}
use mathlib.Core.Bool.{Bool, true, false, not}
use mathlib.Core.Path.{◌≡◌, refl}
use native.Mathlib.Omega.{arith}
use borrow.Author.Tests.{le-ltb}
use lib.Dec.{ltb}
use lib.ListN.{length}
use Rattle.memory.specs.Bytes.{Mem}
use Rattle.memory.proofs.Tests.{pick_keeps, and_false}
use Rattle.registers.specs.declared.Mirroring.{Mirroring}
use Rattle.scanline.specs.Fetches.{counted_at}
use Rattle.scanline.specs.Ranges.{counter_refused}
use Rattle.split.proofs.ControlLaws.{address_in_range}
use Rattle.state.specs.declared.State.{State}
use Rattle.state.specs.Gate.{Open, gate_mem}
use Rattle.state.specs.Lengths.{prg_taken, chr_taken, ram_taken}
use Rattle.state.specs.Ranges.{in_range}
use Rattle.state.proofs.RangeLaws.{ranged}
use Rattle.ppu.specs.Fetches.{ppu_seen, split_seen}
use Rattle.board.specs.declared.Outcome.{Outcome}
use Rattle.board.specs.CpuSide.{cpu_write}
use Rattle.board.specs.Loads.{load_call, loaded_state}
use Rattle.board.specs.StateCalls.{reset_call, clock_call, ppu_register_call}
use Rattle.board_ppu.specs.Counted.{counted_split}
use Rattle.board_ppu.specs.Fetch.{counted_call, pattern_call, ppu_fetch}
use Rattle.board_ppu.specs.Peeks.{ppu_write}
use Rattle.theorems_promises.specs.Address.{AddressStays, counted_call_with8, SameFetch}
use Rattle.theorems_promises.proofs.Fetching.{split_keeps}
use Rattle.theorems_promises.proofs.Gates.{in_range_of}
use Rattle.theorems_promises.proofs.Promised.{gate_stays_open}

found : (s : State) → in_range s ≡ true → s.vsplit.tile_addr ≤ 959
found s h = address_in_range s.vsplit (ranged s h).vsplit

opened : (s : State) (m : Mem) → gate_mem s m ≡ Open → s.vsplit.tile_addr ≤ 959
opened s m h = found s (in_range_of s m h)

elsewhere : (s : State) (m : Mem) (a : ℕ) → gate_mem s m ≡ Open → counted_at a ≡ false → (ppu_fetch s m a).state.vsplit.tile_addr ≡ s.vsplit.tile_addr
unfolding ppu_fetch pattern_call
elsewhere s m a h e =
    let P : Outcome → Type 0 = λ (o : Outcome). o.state.vsplit.tile_addr ≡ s.vsplit.tile_addr in
    rw (h, e) (pick_keeps P (counter_refused s.irq a) refl (pick_keeps P (ltb a 0x2000) refl refl))

loads : (m : Mem) (as_ram : Bool) (mirroring : Mirroring) → (load_call m as_ram mirroring).state.vsplit.tile_addr ≤ 959
unfolding load_call loaded_state
loads m as_ram mirroring =
    let P : Outcome → Type 0 = λ (o : Outcome). o.state.vsplit.tile_addr ≤ 959 in
    pick_keeps P (not (prg_taken (length m.prg))) (omega arith)
    (pick_keeps P (not (chr_taken (length m.chr))) (omega arith)
    (pick_keeps P (not (ram_taken (length m.ram) (length m.ciram) (length m.exram))) (omega arith) (omega arith)))

pub address_stays : AddressStays
unfolding reset_call clock_call ppu_register_call
address_stays =
    record {
      fetch = λ s m a h. opened _ m (gate_stays_open.fetch s m a h);
      fetch_elsewhere = elsewhere;
      found = found;
      load = loads;
      read = λ s m a h. opened _ m (gate_stays_open.read s m a h);
      write = λ s m a v h. opened _ (cpu_write s m a v).mem (gate_stays_open.write s m a v h);
      ppu_write_call = λ s m a v h. opened _ (ppu_write s m a v).mem (gate_stays_open.ppu_write_call s m a v h);
      reset = λ s h. rw h (found s h);
      clock = λ s h. rw h (found s h);
      register = λ s a v h. rw h (found s h);
    }

-- The test that refusal 8 stood behind is false.
pub same_fetch : SameFetch
unfolding counted_call counted_call_with8 ppu_seen split_seen
same_fetch eight s m a h = rw (le-ltb 959 _ (address_in_range (counted_split s a) (split_keeps s a (ranged s h).vsplit)), and_false _)
