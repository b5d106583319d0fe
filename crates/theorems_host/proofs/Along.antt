-- A host's calls are a history: by induction over them, what it holds is the words and the memory of a board that was reached.
use Prim.Native.Nat.{ℕ}
use mathlib.Core.List.{List, [], ◌∷◌, ◌++◌, map}
use mathlib.Core.Path.{◌≡◌, refl, sym, ◌∙◌, ap, subst}
use native.Mathlib.Omega.{arith}
use lib.ListN.{length, get_or}
use mathlib.Core.Bool.{not}
use Rattle.memory.specs.declared.Page.{Page}
use Rattle.memory.specs.PageWords.{page_of}
use Rattle.memory.proofs.Tests.{pick_keeps}
use Rattle.answers.specs.declared.Answer.TheVariants.{Nothing}
use Rattle.state.specs.declared.State.{State}
use Rattle.state.specs.Lengths.{prg_taken, chr_taken, ram_taken}
use Rattle.cpu.specs.Writes.{prg_word_at}
use Rattle.board.specs.declared.Outcome.{Outcome}
use Rattle.board.specs.Loads.{load_call}
use Rattle.board_ppu.specs.Peeks.{chr_word_at}
use Rattle.theorems_promises.proofs.Gates.{in_range_of}
use Rattle.trace.specs.declared.Call.{Call}
use Rattle.host_state.specs.Words.{words_of}
use Rattle.host_answers.specs.Answers.{answer_plain, answer_with_interrupt}
use Rattle.host.specs.Hosted.{LeftWords, left_words, leaving_words}
use Rattle.host_looks.specs.Pages.{entry_number, entry_on}
use Rattle.theorems_scanlines.specs.Calls.Played.{at_load, taken as Going-on}
use Rattle.theorems_histories.specs.Boards.{Board, Made, leaves, number_in}
use Rattle.theorems_histories.specs.Histories.{Load, first, Reached}
use Rattle.theorems_histories.specs.Boards.Made.{call, peek, ppu_peek_lem, sprite_peek_lem, mirroring_asked, interrupt_asked, cpu_page, ppu_page}
use Rattle.theorems_histories.specs.Replays.{board_in, replay_of}
use Rattle.theorems_histories.proofs.Along.{Opened, open_along, starts}
use Rattle.theorems_histories.proofs.GivenBack.{refusals}
use Rattle.theorems_host.specs.Held.{Held, held, board_of, held_of, Hearing, Exchange, looking}
use Rattle.theorems_host.specs.Held.Hearing.{number as hear}
use Rattle.theorems_host.specs.Numbers.{AllInRange}
use Rattle.theorems_host.specs.Calls.{Loading, loading, Loads, Calls, TellsCpuEntry, TellsPpuEntry}
use Rattle.theorems_host.specs.Served.{calls_of_number, hears, Refusing, Hosted, IsAccepted, load_of, loading_of, IsHistory, HostIsHistory}
use Rattle.theorems_host.specs.Served.Hosted.{loaded, taken, refused, replayed}
use Rattle.theorems_host.proofs.Lending.{lends, lends_load}
use Rattle.theorems_host.proofs.Refusing.{as_number, answer_with, answer_plain_lem, just}
use Rattle.theorems_host.proofs.Replaying.{replay_step, replay_reaches}
use Rattle.theorems_host.proofs.Fitting.{reached_fits, both_in_range, heard_in_range}
use Rattle.theorems_host.proofs.Stands.{Sound, forth, entry_on_lem}
use Rattle.theorems_host.proofs.Steps.{Gives, step}

-- The load ------------------------------------------------------------------------------------------------------------------------------

load_left : (x : Loading) → Loads x → left_words x.heard x.words ≡ leaving_words (load_call x.mem x.as_ram x.mirroring)
unfolding Loads
load_left x (κ, a, r, e, t, q) = subst (λ (y : Loading). left_words y.heard y.words ≡ leaving_words (load_call y.mem y.as_ram y.mirroring)) q t

-- A load that is not refused says `Nothing`.
load_says : (x : Loading) → number_in (load_call x.mem x.as_ram x.mirroring).answer ≡ 0 → IsAccepted x
unfolding load_call
load_says x =
    let P : Outcome → Type 0 = λ (o : Outcome). number_in o.answer ≡ 0 → o.answer ≡ Nothing in
    pick_keeps P (not (prg_taken (length x.mem.prg))) (λ e. absurd (omega (arith, e)))
    (pick_keeps P (not (chr_taken (length x.mem.chr))) (λ e. absurd (omega (arith, e)))
    (pick_keeps P (not (ram_taken (length x.mem.ram) (length x.mem.ciram) (length x.mem.exram))) (λ e. absurd (omega (arith, e))) (λ e. refl)))

load_accepted_lem : (x : Loading) → Loads x → (Refusing (hear x.heard) → ⊥) → IsAccepted x
load_accepted_lem x p t =
    let o = load_call x.mem x.as_ram x.mirroring in
    let e : x.heard ≡ answer_with_interrupt o.answer o.state.irq = ap (λ (z : LeftWords). z.number) (load_left x p) in
    load_says x ((answer_with o.answer o.state.irq).0 (subst (λ (n : ℕ). Refusing (hear n) → ⊥) e t))

-- What an accepted load tells.
load_tells : (l : Load) → answer_with_interrupt (load_call l.mem l.as_ram l.mirroring).answer (first l).state.irq ≡ answer_plain Nothing
load_tells l = rw (l.accepted, starts l)

-- What is held -----------------------------------------------------------------------------------------------------------------------------

pub board_back : (b : Board) → Sound b.state → board_of (held_of b) ≡ b
board_back b u = ap (λ (s : State). record { state = s; mem = b.mem }) (forth b.state u)

pub record Stands (x : Loading) (cs : List Made) (h : Held) : Type 0 where
  pub accepted : IsAccepted x
  pub heard : x.heard ≡ answer_plain Nothing
  pub board : Board
  pub reached : Reached (load_of x accepted) cs board
  pub small : AllInRange cs
  pub holds : h ≡ held_of board

none_in_range : AllInRange []
unfolding AllInRange
none_in_range = tt

-- A call over what is held.
made : {h : Held} (b : Board) → Sound b.state → Opened b → (c : Made) (n : Hearing) (h' : Held) → h ≡ held_of b → Calls c h n h' → Gives n h' (hears b c) (held_of (leaves b c))
made b u o c n h' e p = step b u o c n h' (subst (λ (g : Held). Calls c g n h') e p)

open_at : {x : Loading} {cs : List Made} {h : Held} (i : Stands x cs h) → Opened i.board
open_at {x} i = open_along (load_of x i.accepted) i.reached

-- What was reached fits its types, and is in range.
sound_along : (l : Load) {cs : List Made} {b : Board} → Reached l cs b → AllInRange cs → Sound b.state
sound_along l {b = b} r k = record { fits = reached_fits l r k; ranged = in_range_of b.state b.mem (open_along l r) }

sound_at : {x : Loading} {cs : List Made} {h : Held} (i : Stands x cs h) → Sound i.board.state
sound_at {x} i = sound_along (load_of x i.accepted) i.reached i.small

stays : {x : Loading} {cs : List Made} {h : Held} → Stands x cs h → (c : Made) (n : Hearing) (h' : Held) → Calls c h n h' → Refusing n → h' ≡ h
stays i c n h' p t =
    let g = made i.board (sound_at i) (open_at i) c n h' i.holds p in
    g.1 ∙ ap held_of (refusals.gives_back i.board c (λ z. (just i.board c).1 z (subst Refusing g.0 t))) ∙ sym i.holds

pub stands : {x : Loading} {cs : List Made} {h : Held} → Hosted x cs h → Stands x cs h
stands {x} (loaded p t) =
    let q = load_accepted_lem x p t in
    let e = load_left x p in
    record {
      accepted = q;
      heard = ap (λ (z : LeftWords). z.number) e ∙ load_tells (load_of x q);
      board = first (load_of x q);
      reached = at_load;
      small = none_in_range;
      holds = ap (λ (z : LeftWords). held z.words x.mem) e;
    }
stands (taken {cs = cs} c n h' d k p t) =
    let i = stands d in
    let g = made i.board (sound_at i) (open_at i) c n h' i.holds p in
    record {
      accepted = i.accepted;
      heard = i.heard;
      board = leaves i.board c;
      reached = Going-on c i.reached (record { accepted = (just i.board c).0 (subst (λ (m : Hearing). Refusing m → ⊥) g.0 t); left = refl });
      small = both_in_range (c ∷ []) cs k i.small;
      holds = g.1;
    }
stands (refused c n h' d p t) = let i = stands d in record { accepted = i.accepted; heard = i.heard; board = i.board; reached = i.reached; small = i.small; holds = stays i c n h' p t ∙ i.holds }
stands {x} (replayed {cs = cs} y d p) =
    let i = stands d in
    let z = replay_step i.board y (sound_at i) (open_at i) i.holds p in
    let l = load_of x i.accepted in
    record {
      accepted = i.accepted;
      heard = i.heard;
      board = board_in (replay_of i.board y.trace y.log);
      reached = subst (λ (k : List Call). Reached l (map call k ++ cs) (board_in (replay_of i.board y.trace y.log))) (sym z.calls) (replay_reaches l cs i.board y.trace y.log i.reached);
      small = both_in_range (map call (calls_of_number y.trace y.heard)) cs (heard_in_range y.trace y.heard) i.small;
      holds = z.left;
    }

-- What is held stands for what was reached.
stands_for : {x : Loading} {cs : List Made} {h : Held} (i : Stands x cs h) → board_of h ≡ i.board
stands_for i = ap board_of i.holds ∙ board_back i.board (sound_at i)

history : (x : Loading) (cs : List Made) (h : Held) → Hosted x cs h → IsHistory x cs h
history x cs h d =
    let i = stands d in
    record {
      accepted = i.accepted;
      reached = subst (Reached (load_of x i.accepted) cs) (sym (stands_for i)) i.reached;
      words = ap (λ (g : Held). g.words) i.holds ∙ ap (λ (b : Board). words_of b.state) (sym (stands_for i));
    }

next : (x : Loading) (cs : List Made) (h : Held) → Hosted x cs h → (c : Made) (n : Hearing) (h' : Held) → Calls c h n h' → Gives n h' (hears (board_of h) c) (held_of (leaves (board_of h) c))
next x cs h d c n h' p =
    let i = stands d in
    made (board_of h) (subst (λ (b : Board). Sound b.state) (sym (stands_for i)) (sound_at i)) (subst Opened (sym (stands_for i)) (open_at i)) c n h' (i.holds ∙ ap held_of (sym (stands_for i))) p

-- The page tables' entries.
entry_heard : {w : List ℕ} (b : Board) (f : List ℕ → State → Page) {l : List ℕ} {r : ℕ} (k : List ℕ) {h : Held} (n : ℕ) → Sound b.state → h ≡ held_of b → r ≡ entry_on w (f l)
    → looking l (held w h.mem) (hear r) ≡ looking k h (hear n) → n ≡ entry_number (f k b.state)
entry_heard b f k {h} n g e t q =
    let p = subst (λ (x : Exchange). as_number x.heard ≡ entry_on x.before.words (f x.own)) q t in
    p ∙ ap (λ (z : Held). entry_on z.words (f k)) e ∙ entry_on_lem b.state (f k) g

held_sound : {x : Loading} {cs : List Made} {h : Held} (i : Stands x cs h) → Sound (board_of h).state
held_sound i = subst (λ (b : Board). Sound b.state) (sym (stands_for i)) (sound_at i)

cpu_entry : (x : Loading) (cs : List Made) (h : Held) → Hosted x cs h → (p n : ℕ) → TellsCpuEntry h p n → n ≡ entry_number (page_of (prg_word_at (board_of h).state.prg_pages p))
unfolding TellsCpuEntry
cpu_entry x cs h d p n (κ, a, r, e, t, q) =
    let i = stands d in
    entry_heard (board_of h) (λ (l : List ℕ) (s : State). page_of (prg_word_at s.prg_pages (get_or l 0 0))) (p ∷ []) n (held_sound i) (i.holds ∙ ap held_of (sym (stands_for i))) t q

ppu_entry : (x : Loading) (cs : List Made) (h : Held) → Hosted x cs h → (p n : ℕ) → TellsPpuEntry h p n → n ≡ entry_number (page_of (chr_word_at (board_of h).state.chr_pages p))
unfolding TellsPpuEntry
ppu_entry x cs h d p n (κ, a, r, e, t, q) =
    let i = stands d in
    entry_heard (board_of h) (λ (l : List ℕ) (s : State). page_of (chr_word_at s.chr_pages (get_or l 0 0))) (p ∷ []) n (held_sound i) (i.holds ∙ ap held_of (sym (stands_for i))) t q

-- The numbers of a call, and of those behind it.
behind_first : (c : Made) (cs : List Made) → AllInRange (c ∷ cs) → AllInRange cs
unfolding AllInRange
behind_first (call c) cs k = k.1
behind_first (peek a) cs k = k
behind_first (ppu_peek_lem a) cs k = k
behind_first (sprite_peek_lem a) cs k = k
behind_first mirroring_asked cs k = k
behind_first interrupt_asked cs k = k
behind_first (cpu_page a) cs k = k
behind_first (ppu_page a) cs k = k

first_alone : (c : Made) (cs : List Made) → AllInRange (c ∷ cs) → AllInRange (c ∷ [])
unfolding AllInRange
first_alone (call c) cs k = (k.0, tt)
first_alone (peek a) cs k = tt
first_alone (ppu_peek_lem a) cs k = tt
first_alone (sprite_peek_lem a) cs k = tt
first_alone mirroring_asked cs k = tt
first_alone interrupt_asked cs k = tt
first_alone (cpu_page a) cs k = tt
first_alone (ppu_page a) cs k = tt

-- Every history is one of a host's.
hosted : (l : Load) {cs : List Made} {b : Board} → Reached l cs b → AllInRange cs → Hosted (loading_of l) cs (held_of b)
hosted l at_load k =
    loaded (subst (λ (n : ℕ). Loads (loading l.mem l.as_ram l.mirroring n (words_of (first l).state))) (load_tells l) (lends_load l.mem l.as_ram l.mirroring))
    ((answer_plain_lem Nothing).1 refl)
hosted l (Going-on {cs = cs} {s = b} {s' = b'} c r t) k =
    let p = subst (λ (z : Board). Calls c (held_of b) (hears b c) (held_of z)) (sym t.left) (lends b (sound_along l r (behind_first c cs k)) (open_along l r) c) in
    taken c (hears b c) (held_of b') (hosted l r (behind_first c cs k)) (first_alone c cs k) p ((just b c).1 t.accepted)

pub host_is_history : HostIsHistory
host_is_history = record {
  history = history;
  load_heard = λ x cs h d. (stands d).heard;
  heard = λ x cs h d c n h' p. (next x cs h d c n h' p).0;
  left = λ x cs h d c n h' p. (next x cs h d c n h' p).1;
  refused = λ x cs h d c n h' p t. stays (stands d) c n h' p t;
  cpu_entry = cpu_entry;
  ppu_entry = ppu_entry;
  replayed = λ x cs y d p. let i = stands d in replay_step (board_of y.before) y (held_sound i) (subst Opened (sym (stands_for i)) (open_at i)) (i.holds ∙ ap held_of (sym (stands_for i))) p;
  every = λ l cs b r k. hosted l r k;
}
