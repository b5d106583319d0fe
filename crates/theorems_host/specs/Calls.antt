-- What a host's calls may do, by the contracts of the library's own functions: the eight of crate `host`, of crate `host_looks` the peeks, the
-- mirroring, the interrupt, the page views and the page tables' entries, and the replay of crate `host_replay`. Memory that a function is not lent, or is lent to read, stays as it was.
-- Assumes nothing.
use Rattle.std.specs.Prelude.{ℕ, Bool, not, List, [], ◌∷◌, ◌≡◌, eqb, length, take}
use Rattle.memory.specs.Bytes.{Mem}
use Rattle.registers.specs.declared.Mirroring.{Mirroring}
use Rattle.trace.specs.declared.Call.TheVariants.{Clock, CpuRead, CpuWrite, PpuRegister, PpuFetch, Reset, PpuWrite}
use Rattle.calls.specs.Lent.{mem_left}
use Rattle.host_state.specs.Words.{mirroring_numbered}
use Rattle.theorems_histories.specs.Boards.{Made}
use Rattle.theorems_histories.specs.Boards.Made.{call, peek, ppu_peek_lem, sprite_peek_lem, mirroring_asked, interrupt_asked, cpu_page, ppu_page}
use Rattle.theorems_settles.specs.OwnHosts.{host_clock as clock, host_cpu_write as cpu_write_lem, host_ppu_fetch as ppu_fetch_lem, host_load as load, host_ppu_write as ppu_write_lem, host_cpu_read as cpu_read_lem, host_ppu_register as ppu_register_lem, host_reset as reset, host_looks_cpu_entry as cpu_entry, host_looks_cpu_page as cpu_paged, host_looks_ppu_entry as ppu_entry, host_looks_ppu_page as ppu_paged, host_looks_cpu_peek as cpu_peeked, host_looks_ppu_peek as ppu_peeked, host_looks_sprite_peek as sprite_peeked, host_looks_interrupt as interrupt_heard, host_looks_mirroring as mirroring_heard, host_replay_replay as replay}
use Rattle.theorems_settles.specs.Hosts.{words_left, behind_words}
use Rattle.theorems_histories.specs.Code.{Allowed}
use Rattle.theorems_host.specs.Held.{Held, held, Hearing, exchange, looking, words_lent, lent_in, lent_to_change, lent_to_look, behind_lent}
use Rattle.theorems_host.specs.Held.Hearing.{number, bytes}

-- A load as a host sees it: the buffers, whether CHR is writable, the header's mirroring, the number that it hears, and the words that it holds then.
pub record Loading : Type 0 where
  pub mem : Mem
  pub as_ram : Bool
  pub mirroring : Mirroring
  pub heard : ℕ
  pub words : List ℕ

abbrev pub loading : Mem → Bool → Mirroring → ℕ → List ℕ → Loading
loading m ram k n w = record { mem = m; as_ram = ram; mirroring = k; heard = n; words = w }

-- The contract of `mmc5_load` allows it.
unfoldable pub Loads : Loading → Type 0
Loads x =
    Allowed load.Learnt (λ κ a r e. loading (lent_in a).mem (not (eqb (behind_lent a).0 0)) (mirroring_numbered (behind_lent a).1.0) r (words_left e)) x

-- The contract of the call's function allows that it is lent h, tells n and leaves h'.
unfoldable pub Calls : Made → Held → Hearing → Held → Type 0
Calls (call Clock) h n h' = Allowed clock.Learnt (λ κ a r e. exchange [] (held (words_left a) h.mem) (number r) (held (words_left e) h.mem)) (exchange [] h n h')
Calls (call Reset) h n h' = Allowed reset.Learnt (λ κ a r e. exchange [] (held (words_left a) h.mem) (number r) (held (words_left e) h.mem)) (exchange [] h n h')
Calls (call (PpuRegister p v)) h n h' =
    Allowed ppu_register_lem.Learnt (λ κ a r e. exchange ((behind_words a).0 ∷ (behind_words a).1.0 ∷ []) (held (words_left a) h.mem) (number r) (held (words_left e) h.mem))
    (exchange (p.0 ∷ v ∷ []) h n h')
Calls (call (CpuRead p)) h n h' =
    Allowed cpu_read_lem.Learnt (λ κ a r e. exchange ((behind_lent a).0 ∷ []) (lent_in a) (number r) (held (words_left e) (lent_in a).mem)) (exchange (p.0 ∷ []) h n h')
Calls (call (PpuFetch p)) h n h' =
    Allowed ppu_fetch_lem.Learnt (λ κ a r e. exchange ((behind_lent a).0 ∷ []) (lent_in a) (number r) (held (words_left e) (lent_in a).mem)) (exchange (p.0 ∷ []) h n h')
Calls (call (CpuWrite p v)) h n h' =
    Allowed cpu_write_lem.Learnt (λ κ a r e. exchange ((behind_lent a).0 ∷ (behind_lent a).1.0 ∷ []) (lent_to_change a) (number r) (held (words_left e) (mem_left (behind_words a).0.now (behind_words e).1)))
    (exchange (p.0 ∷ v ∷ []) h n h')
Calls (call (PpuWrite p v)) h n h' =
    Allowed ppu_write_lem.Learnt (λ κ a r e. exchange ((behind_lent a).0 ∷ (behind_lent a).1.0 ∷ []) (lent_to_change a) (number r) (held (words_left e) (mem_left (behind_words a).0.now (behind_words e).1)))
    (exchange (p.0 ∷ v ∷ []) h n h')
Calls (peek p) h n h' = Allowed cpu_peeked.Learnt (λ κ a r e. looking ((behind_lent a).0 ∷ []) (lent_to_look a) (number r)) (exchange (p.0 ∷ []) h n h')
Calls (ppu_peek_lem p) h n h' = Allowed ppu_peeked.Learnt (λ κ a r e. looking ((behind_lent a).0 ∷ []) (lent_to_look a) (number r)) (exchange (p.0 ∷ []) h n h')
Calls (sprite_peek_lem p) h n h' = Allowed sprite_peeked.Learnt (λ κ a r e. looking ((behind_lent a).0 ∷ []) (lent_to_look a) (number r)) (exchange (p.0 ∷ []) h n h')
Calls mirroring_asked h n h' = Allowed mirroring_heard.Learnt (λ κ a r e. looking [] (held (words_lent a) h.mem) (number r)) (exchange [] h n h')
Calls interrupt_asked h n h' = Allowed interrupt_heard.Learnt (λ κ a r e. looking [] (held (words_lent a) h.mem) (number r)) (exchange [] h n h')
-- where it is lent 1,024 bytes to copy to; the number says how many were copied
Calls (cpu_page p) h n h' =
    Allowed (λ κ a r e. cpu_paged.Learnt κ a r e × (length (behind_lent a).1.0.now ≡ 1024)) (λ κ a r e. looking ((behind_lent a).0 ∷ []) (lent_to_look a) (bytes (take r (behind_lent e).1.0.now)))
    (exchange (p.0 ∷ []) h n h')
Calls (ppu_page p) h n h' =
    Allowed (λ κ a r e. ppu_paged.Learnt κ a r e × (length (behind_lent a).1.0.now ≡ 1024)) (λ κ a r e. looking ((behind_lent a).0 ∷ []) (lent_to_look a) (bytes (take r (behind_lent e).1.0.now)))
    (exchange (p.0 ∷ []) h n h')

-- What `mmc5_cpu_entry` and `mmc5_ppu_entry` tell of the page tables, by their contracts: at an address, a number.
unfoldable pub TellsCpuEntry : Held → ℕ → ℕ → Type 0
TellsCpuEntry h p n = Allowed cpu_entry.Learnt (λ κ a r e. looking ((behind_words a).0 ∷ []) (held (words_lent a) h.mem) (number r)) (looking (p ∷ []) h (number n))

unfoldable pub TellsPpuEntry : Held → ℕ → ℕ → Type 0
TellsPpuEntry h p n = Allowed ppu_entry.Learnt (λ κ a r e. looking ((behind_words a).0 ∷ []) (held (words_lent a) h.mem) (number r)) (looking (p ∷ []) h (number n))

-- A replay as a host sees it: the trace and the log that it lends beside what it holds, the number that it hears, what it holds then, and the log.
pub record Replaying : Type 0 where
  pub trace : List ℕ
  pub log : List ℕ
  pub before : Held
  pub heard : ℕ
  pub after : Held
  pub log_after : List ℕ

abbrev pub replaying : List ℕ → List ℕ → Held → ℕ → Held → List ℕ → Replaying
replaying t l h n h' l' = record { trace = t; log = l; before = h; heard = n; after = h'; log_after = l' }

-- The contract of `mmc5_replay` allows it.
unfoldable pub Runs : Replaying → Type 0
Runs y =
    Allowed replay.Learnt (λ κ a r e.
    replaying (behind_lent a).0.now (behind_lent a).1.0.now (lent_to_change a) r (held (words_left e) (mem_left (behind_words a).0.now (behind_words e).1)) (behind_lent e).1.0.now) y
