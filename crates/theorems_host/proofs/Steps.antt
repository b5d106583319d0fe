-- A call over the words of a state: what its contract allows is what `hears` and `leaves` say.
use Prim.Native.Nat.{ℕ}
use mathlib.Core.Bool.{true}
use mathlib.Core.List.{List}
use mathlib.Core.Path.{◌≡◌, refl, ◌∙◌, ap, subst}
use lib.ListN.{get_or, length, take}
use Rattle.memory.specs.Bytes.{Mem}
use Rattle.answers.specs.Refused.{is_refused}
use Rattle.state.specs.declared.State.{State}
use Rattle.state.specs.Gate.{Open, gate_mem}
use Rattle.board.specs.declared.Outcome.{Outcome}
use Rattle.board.specs.CpuSide.{cpu_read, cpu_peek, cpu_write}
use Rattle.board.specs.Outcomes.{After, after_of}
use Rattle.board.specs.StateCalls.{reset_call, clock_call, ppu_register_call, mirroring_call, interrupt_call}
use Rattle.board_ppu.specs.Fetch.{ppu_fetch}
use Rattle.board_ppu.specs.Peeks.{ppu_write, ppu_peek, sprite_peek}
use Rattle.views.specs.Views.{cpu_view, ppu_view}
use Rattle.trace.specs.declared.Call.TheVariants.{Clock, CpuRead, CpuWrite, PpuRegister, PpuFetch, Reset, PpuWrite}
use Rattle.calls.specs.Called.{over_lent}
use Rattle.host_answers.specs.Answers.{answer_plain, answer_mirroring, answer_interrupt}
use Rattle.host.specs.Hosted.{LeftWords, left_words, leaving_words, on_words, LeftMemory, left_memory, leaving_memory, on_memory}
use Rattle.host_looks.specs.Looks.{look_on}
use Rattle.host_looks.specs.Pages.{Copied, copied_of, copy_on}
use Rattle.theorems_histories.specs.Boards.{Board, Made, says, leaves}
use Rattle.theorems_histories.specs.Boards.Made.{call, peek, ppu_peek_lem, sprite_peek_lem, mirroring_asked, interrupt_asked, cpu_page, ppu_page}
use Rattle.theorems_host.specs.Held.{Held, held, held_of, Hearing, Exchange, exchange, looking}
use Rattle.theorems_host.specs.Held.Hearing.{number, bytes}
use Rattle.theorems_host.specs.Calls.{Calls}
use Rattle.theorems_host.specs.Served.{plainly, with_interrupt, hears}
use Rattle.theorems_host.proofs.Pages.{IsPage, copied_whole, cpu_page_whole, ppu_page_whole}
use Rattle.theorems_host.proofs.Backs.{clock_back, reset_back, register_back, read_back, fetch_back, write_back, store_back}
use Rattle.theorems_host.proofs.Stands.{Sound, on_words_lem, on_memory_lem, look_on_lem, copy_on_lem}

-- What is heard and held after a call.
abbrev pub Gives : Hearing → Held → Hearing → Held → Type 0
Gives n h m k = (n ≡ m) × (h ≡ k)

-- A fact about a call, said again of what its numbers and its memory are seen to be.
carried : (F : List ℕ → Held → Hearing) (G : List ℕ → Held → Held) {l k : List ℕ} {g h g' h' : Held} {m n : Hearing} → m ≡ F l g → g' ≡ G l g → exchange l g m g' ≡ exchange k h n h'
    → Gives n h' (F k h) (G k h)
carried F G p r q = subst (λ (x : Exchange). Gives x.heard x.after (F x.own x.before) (G x.own x.before)) q (p, r)

module _ (b : Board) (u : Sound b.state) {l k : List ℕ} {w : List ℕ} {m : Mem} {r : ℕ} {n : Hearing} {h' : Held} where
  words_step : {w' : List ℕ} (f : State → Mem → List ℕ → Outcome) → (is_refused (f b.state b.mem k).answer ≡ true → (f b.state b.mem k).state ≡ b.state) → left_words r w' ≡ on_words w (λ (s : State). f s m l) → exchange l (held w m) (number r) (held w' m) ≡ exchange k (held_of b) n h'
      → Gives n h' (number (leaving_words (f b.state b.mem k)).number) (held (leaving_words (f b.state b.mem k)).words b.mem)
  words_step f y t q =
      let on : List ℕ → Held → LeftWords = λ (j : List ℕ) (h : Held). on_words h.words (λ (s : State). f s h.mem j) in
      let p = carried (λ j h. number (on j h).number) (λ j h. held (on j h).words h.mem) (ap (λ (z : LeftWords). number z.number) t) (ap (λ (z : LeftWords). held z.words m) t) q in
      let e = on_words_lem b.state (λ (s : State). f s b.mem k) u y in
      (p.0 ∙ ap (λ (z : LeftWords). number z.number) e, p.1 ∙ ap (λ (z : LeftWords). held z.words b.mem) e)

  memory_step : {w' : List ℕ} {m' : Mem} (f : State → Mem → List ℕ → After) → (is_refused (f b.state b.mem k).out.answer ≡ true → ((f b.state b.mem k).out.state ≡ b.state) × ((f b.state b.mem k).mem ≡ b.mem)) → left_memory r w' m' ≡ on_memory w m (λ (s : State). f s m l) → exchange l (held w m) (number r) (held w' m') ≡ exchange k (held_of b) n h'
      → Gives n h' (number (leaving_memory (f b.state b.mem k)).number) (held (leaving_memory (f b.state b.mem k)).words (leaving_memory (f b.state b.mem k)).mem)
  memory_step f y t q =
      let on : List ℕ → Held → LeftMemory = λ (j : List ℕ) (h : Held). on_memory h.words h.mem (λ (s : State). f s h.mem j) in
      let p = carried (λ j h. number (on j h).number) (λ j h. held (on j h).words (on j h).mem) (ap (λ (z : LeftMemory). number z.number) t) (ap (λ (z : LeftMemory). held z.words z.mem) t) q in
      let e = on_memory_lem b.state b.mem (λ (s : State). f s b.mem k) u y in
      (p.0 ∙ ap (λ (z : LeftMemory). number z.number) e, p.1 ∙ ap (λ (z : LeftMemory). held z.words z.mem) e)

  look_step : {A : Type 0} (heard : A → ℕ) (f : State → Mem → List ℕ → A) → r ≡ look_on w heard (λ (s : State). f s m l) → looking l (held w m) (number r) ≡ exchange k (held_of b) n h'
      → Gives n h' (number (heard (f b.state b.mem k))) (held_of b)
  look_step heard f t q =
      let p = carried (λ j h. number (look_on h.words heard (λ (s : State). f s h.mem j))) (λ j h. h) (ap number t) refl q in
      (p.0 ∙ ap number (look_on_lem b.state heard (λ (s : State). f s b.mem k) u), p.1)

  page_step : (out : List ℕ) {out' : List ℕ} (f : State → Mem → List ℕ → List ℕ) → IsPage (f b.state b.mem k) → copied_of r out' ≡ copy_on w (λ (s : State). f s m l) out → length out ≡ 1024
      → looking l (held w m) (bytes (take r out')) ≡ exchange k (held_of b) n h' → Gives n h' (bytes (f b.state b.mem k)) (held_of b)
  page_step out f i t z q =
      let taken : Copied → Hearing = λ (c : Copied). bytes (take c.count c.bytes) in
      let p = carried (λ j h. taken (copy_on h.words (λ (s : State). f s h.mem j) out)) (λ j h. h) (ap taken t) refl q in
      (p.0 ∙ ap taken (copy_on_lem b.state (λ (s : State). f s b.mem k) out u) ∙ ap bytes (copied_whole i out z), p.1)

-- A call on the state alone is the board's where the buffers are as recorded.
pub over_lent_lem : (s : State) (m : Mem) (o : Outcome) → gate_mem s m ≡ Open → after_of o m ≡ over_lent s m o
over_lent_lem s m o g = rw g

alone_step : (b : Board) (o : Outcome) {n : Hearing} {h' : Held} → gate_mem b.state b.mem ≡ Open → Gives n h' (number (leaving_words o).number) (held (leaving_words o).words b.mem)
    → let x = over_lent b.state b.mem o in Gives n h' (number (leaving_memory x).number) (held (leaving_memory x).words (leaving_memory x).mem)
alone_step b o {n} {h'} g p =
    subst (λ (x : After). Gives n h' (number (leaving_memory x).number) (held (leaving_memory x).words (leaving_memory x).mem)) (over_lent_lem b.state b.mem o g) p

-- Behind an open gate.
pub step : (b : Board) → Sound b.state → gate_mem b.state b.mem ≡ Open → (c : Made) (n : Hearing) (h' : Held) → Calls c (held_of b) n h' → Gives n h' (hears b c) (held_of (leaves b c))
unfolding Calls hears with_interrupt plainly says leaves
step b u g (call Clock) n h' (κ, i, r, e, t, q) = alone_step b (clock_call b.state) g (words_step b u (λ s m l. clock_call s) (clock_back b.state) t q)
step b u g (call Reset) n h' (κ, i, r, e, t, q) = alone_step b (reset_call b.state) g (words_step b u (λ s m l. reset_call s) (reset_back b.state) t q)
step b u g (call (PpuRegister a v)) n h' (κ, i, r, e, t, q) =
    alone_step b (ppu_register_call b.state a.0 v) g (words_step b u (λ s m l. ppu_register_call s (get_or l 0 0) (get_or l 1 0)) (register_back b.state a.0 v) t q)
step b u g (call (CpuRead a)) n h' (κ, i, r, e, t, q) = words_step b u (λ s m l. cpu_read s m (get_or l 0 0)) (read_back b.state b.mem a.0) t q
step b u g (call (PpuFetch a)) n h' (κ, i, r, e, t, q) = words_step b u (λ s m l. ppu_fetch s m (get_or l 0 0)) (fetch_back b.state b.mem a.0) t q
step b u g (call (CpuWrite a v)) n h' (κ, i, r, e, t, q) = memory_step b u (λ s m l. cpu_write s m (get_or l 0 0) (get_or l 1 0)) (write_back b.state b.mem a.0 v) t q
step b u g (call (PpuWrite a v)) n h' (κ, i, r, e, t, q) = memory_step b u (λ s m l. ppu_write s m (get_or l 0 0) (get_or l 1 0)) (store_back b.state b.mem a.0 v) t q
step b u g (peek a) n h' (κ, i, r, e, t, q) = look_step b u answer_plain (λ s m l. cpu_peek s m (get_or l 0 0)) t q
step b u g (ppu_peek_lem a) n h' (κ, i, r, e, t, q) = look_step b u answer_plain (λ s m l. ppu_peek s m (get_or l 0 0)) t q
step b u g (sprite_peek_lem a) n h' (κ, i, r, e, t, q) = look_step b u answer_plain (λ s m l. sprite_peek s m (get_or l 0 0)) t q
step b u g mirroring_asked n h' (κ, i, r, e, t, q) = look_step b u answer_mirroring (λ s m l. mirroring_call s) t q
step b u g interrupt_asked n h' (κ, i, r, e, t, q) = look_step b u answer_interrupt (λ s m l. interrupt_call s) t q
step b u g (cpu_page a) n h' (κ, i, r, e, t, q) = page_step b u _ (λ s m l. cpu_view s m (get_or l 0 0)) (cpu_page_whole b.state b.mem a.0) t.0 t.1 q
step b u g (ppu_page a) n h' (κ, i, r, e, t, q) = page_step b u _ (λ s m l. ppu_view s m (get_or l 0 0)) (ppu_page_whole b.state b.mem a.0) t.0 t.1 q
