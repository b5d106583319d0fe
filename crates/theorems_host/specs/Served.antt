-- A host's calls over lent words are a history of the board. 00, demand 2: "On every sequence of accepted calls from load, answers, page tables and
-- memory .."; 01, "What each contract settles": "each takes the state and the memories as the call before it left them." What a call does is what
-- its function's contract allows (specs/Calls.antt), so that this speaks of what a server runs.
-- Assumes of a host's calls what their types say: addresses of 16 bits, values of 8 (Numbers.antt).
use Rattle.std.specs.Prelude.{ℕ, ◌+◌, ◌%◌, List, [], ◌∷◌, ◌++◌, map, ◌≡◌, ltb, length}
use Rattle.memory.specs.Tests.{pick}
use Rattle.memory.specs.PageWords.{page_of}
use Rattle.answers.specs.declared.Answer.TheVariants.{Nothing, Refused}
use Rattle.answers.specs.declared.Refusal.{Refusal}
use Rattle.scanline.specs.declared.Detector.{Detector}
use Rattle.cpu.specs.Writes.{prg_word_at}
use Rattle.board.specs.Loads.{load_call}
use Rattle.board_ppu.specs.Peeks.{chr_word_at}
use Rattle.trace.specs.declared.Call.{Call}
use Rattle.player.specs.Replay.{Left}
use Rattle.host_state.specs.Words.{words_of}
use Rattle.host_answers.specs.Answers.{answer_plain, answer_with_interrupt, answer_mirroring, answer_interrupt}
use Rattle.host_looks.specs.Pages.{entry_number}
use Rattle.host_replay.specs.Replays.{ending_number}
use Rattle.theorems_histories.specs.Boards.{Board, Made, Said, says, leaves}
use Rattle.theorems_histories.specs.Boards.Made.{call, peek, ppu_peek_lem, sprite_peek_lem, mirroring_asked, interrupt_asked, cpu_page, ppu_page}
use Rattle.theorems_histories.specs.Boards.Said.{answers, mirrors, interrupts, shows}
use Rattle.theorems_histories.specs.Histories.{Load, first, Reached}
use Rattle.theorems_histories.specs.Watching.{view}
use Rattle.theorems_histories.specs.Replays.{records_to, played_calls, board_in, replay_of}
use Rattle.theorems_host.specs.Held.{Held, held, board_of, held_of, Hearing}
use Rattle.theorems_host.specs.Held.Hearing.{number, bytes}
use Rattle.theorems_host.specs.Numbers.{AllInRange}
use Rattle.theorems_host.specs.Calls.{Loading, loading, Loads, Calls, TellsCpuEntry, TellsPpuEntry, Replaying, Runs}

-- What is heard of what a call says; of the seven calls with the interrupt after it.
unfoldable pub plainly : Said → Hearing
plainly (answers a) = number (answer_plain a)
plainly (mirrors t) = number (answer_mirroring t)
plainly (interrupts i) = number (answer_interrupt i)
plainly (shows l) = bytes l

unfoldable pub with_interrupt : Said → Detector → Hearing
with_interrupt (answers a) d = number (answer_with_interrupt a d)
with_interrupt (mirrors t) d = number (answer_mirroring t)
with_interrupt (interrupts i) d = number (answer_interrupt i)
with_interrupt (shows l) d = bytes l

unfoldable pub hears : Board → Made → Hearing
hears b (call c) = with_interrupt (says b (call c)) (view (leaves b (call c)))
hears b (peek a) = plainly (says b (peek a))
hears b (ppu_peek_lem a) = plainly (says b (ppu_peek_lem a))
hears b (sprite_peek_lem a) = plainly (says b (sprite_peek_lem a))
hears b mirroring_asked = plainly (says b mirroring_asked)
hears b interrupt_asked = plainly (says b interrupt_asked)
hears b (cpu_page a) = plainly (says b (cpu_page a))
hears b (ppu_page a) = plainly (says b (ppu_page a))

-- What is heard is a refusal. It is for the host to see: it knows no more than what it hears.
abbrev pub Refusing : Hearing → Type 0
Refusing n = (r : Refusal) × (n ≡ number (answer_plain (Refused r)))

-- The records that the number of a replay says were played: all of the trace, or those before the place in it, the newest first.
abbrev pub place_of_number : List ℕ → ℕ → ℕ
place_of_number trace n = pick (ltb n 65536) (length trace) (n % 65536)

abbrev pub calls_of_number : List ℕ → ℕ → List Call
calls_of_number trace n = records_to (length trace + 1) trace (place_of_number trace n) 0 []

-- A host loaded a cartridge and heard no refusal; each of its calls then took what the one before it had left. The calls cs, the newest first,
-- were those after which it heard none, and it holds h. Its addresses are u16 and its values bytes, as the types of the library's functions have it.
pub data Hosted (x : Loading) : List Made → Held → Type 0 where
  loaded : Loads x → (Refusing (number x.heard) → ⊥) → Hosted x [] (held x.words x.mem)
  taken : {cs : List Made} {h : Held} (c : Made) (n : Hearing) (h' : Held) → Hosted x cs h → AllInRange (c ∷ []) → Calls c h n h' → (Refusing n → ⊥) → Hosted x (c ∷ cs) h'
  refused : {cs : List Made} {h : Held} (c : Made) (n : Hearing) (h' : Held) → Hosted x cs h → Calls c h n h' → Refusing n → Hosted x cs h'
  replayed : {cs : List Made} (y : Replaying) → Hosted x cs y.before → Runs y → Hosted x (map call (calls_of_number y.trace y.heard) ++ cs) y.after

-- The load of such calls, where it is accepted.
abbrev pub IsAccepted : Loading → Type 0
IsAccepted x = (load_call x.mem x.as_ram x.mirroring).answer ≡ Nothing

abbrev pub load_of : (x : Loading) → IsAccepted x → Load
load_of x q = record { mem = x.mem; as_ram = x.as_ram; mirroring = x.mirroring; accepted = q }

-- A load as a host sees it after which it hears no refusal.
abbrev pub loading_of : Load → Loading
loading_of l = loading l.mem l.as_ram l.mirroring (answer_plain Nothing) (words_of (first l).state)

-- The calls that a host makes are a history.
pub record IsHistory (x : Loading) (cs : List Made) (h : Held) : Type 0 where
  pub accepted : IsAccepted x
  -- "each takes the state and the memories as the call before it left them"
  pub reached : Reached (load_of x accepted) cs (board_of h)
  -- the words are the words of its state
  pub words : h.words ≡ words_of (board_of h).state

-- What a host sees of a replay is what the replay z leaves.
pub record Replayed (y : Replaying) (z : Left) : Type 0 where
  pub heard : y.heard ≡ ending_number z.out.ending
  pub left : y.after ≡ held_of (board_in z)
  pub log : y.log_after ≡ z.log
  -- the number tells which records were played
  pub calls : calls_of_number y.trace y.heard ≡ played_calls y.trace z.out.ending

pub record HostIsHistory : Type 0 where
  pub history : (x : Loading) (cs : List Made) (h : Held) → Hosted x cs h → IsHistory x cs h
  -- the load tells `-` and no interrupt
  pub load_heard : (x : Loading) (cs : List Made) (h : Held) → Hosted x cs h → x.heard ≡ answer_plain Nothing
  -- the next call, refused or not, tells what `says` says, and leaves what `leaves` says: "answers, page tables and memory"
  pub heard : (x : Loading) (cs : List Made) (h : Held) → Hosted x cs h → (c : Made) (n : Hearing) (h' : Held) → Calls c h n h' → n ≡ hears (board_of h) c
  pub left : (x : Loading) (cs : List Made) (h : Held) → Hosted x cs h → (c : Made) (n : Hearing) (h' : Held) → Calls c h n h' → h' ≡ held_of (leaves (board_of h) c)
  -- "page tables": the entries that it hears are those of the tables
  pub cpu_entry : (x : Loading) (cs : List Made) (h : Held) → Hosted x cs h → (p n : ℕ) → TellsCpuEntry h p n → n ≡ entry_number (page_of (prg_word_at (board_of h).state.prg_pages p))
  pub ppu_entry : (x : Loading) (cs : List Made) (h : Held) → Hosted x cs h → (p n : ℕ) → TellsPpuEntry h p n → n ≡ entry_number (page_of (chr_word_at (board_of h).state.chr_pages p))
  -- 00, demand 1: "A refusal .. returns the state as handed in and writes no byte"
  pub refused : (x : Loading) (cs : List Made) (h : Held) → Hosted x cs h → (c : Made) (n : Hearing) (h' : Held) → Calls c h n h' → Refusing n → h' ≡ h
  -- a replay tells how it ends, and leaves what it leaves, by the definitions (crate `theorems_histories`, specs/Replays.antt, says what that is)
  pub replayed : (x : Loading) (cs : List Made) (y : Replaying) → Hosted x cs y.before → Runs y → Replayed y (replay_of (board_of y.before) y.trace y.log)
  -- and nothing is lost: every history of the board, of calls with such numbers, is one of a host
  pub every : (l : Load) (cs : List Made) (b : Board) → Reached l cs b → AllInRange cs → Hosted (loading_of l) cs (held_of b)
