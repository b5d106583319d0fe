-- The PPU fetch by the groups that it changes: what it leaves in the words is what the board's call leaves.
use Prim.Native.Nat.{ℕ, ◌+◌, ◌≤◌}
use mathlib.Core.Bool.{Bool, true, false, ◌&&◌}
use mathlib.Core.List.{List}
use mathlib.Core.Path.{◌≡◌, refl, sym, ap, ◌∙◌}
use native.Mathlib.Omega.{arith}
use lib.Dec.{ltb}
use lib.ListN.{length, take, drop, length-map}
use Rattle.memory.specs.declared.PageWord.{PageWord}
use Rattle.memory.specs.Bytes.{Mem}
use Rattle.memory.specs.Tests.{pick}
use Rattle.memory.specs.PageWords.{word, page_of}
use Rattle.memory.proofs.Tests.{pick_keeps}
use Rattle.answers.specs.declared.Answer.{Answer}
use Rattle.answers.specs.Refused.{is_refused}
use Rattle.registers.specs.declared.Regs.{Regs}
use Rattle.registers.specs.Registers.{nametable_use}
use Rattle.scanline.specs.declared.Detector.{Detector}
use Rattle.scanline.specs.Fetches.{counted_at, name_at}
use Rattle.scanline.specs.Ranges.{detector_ok, counter_refused}
use Rattle.scanline.specs.Steps.{seen_at}
use Rattle.scanline.specs.Tiles.{tiles_ok, column_of, is_prefetched, is_first}
use Rattle.split.specs.declared.VSplit.{VSplit}
use Rattle.split.specs.Control.{split_active}
use Rattle.split.specs.Region.{scroll_of, after_name}
use Rattle.state.specs.declared.Lengths.{Lengths}
use Rattle.state.specs.declared.PpuStatus.{PpuStatus}
use Rattle.state.specs.declared.State.{State}
use Rattle.state.specs.Gate.{Open, gate_mem}
use Rattle.state.specs.Ranges.{in_range}
use Rattle.state.specs.With.{with_irq, with_ppu, with_vsplit, with_chr_pages}
use Rattle.state.proofs.RangeLaws.{ranged}
use Rattle.banks.specs.Chr.{chr_mapped}
use Rattle.banks.proofs.PlacedLaws.{length_placed}
use Rattle.cpu.specs.Chosen.{chosen, set_changed}
use Rattle.cpu.specs.Reads.{page_answer}
use Rattle.ppu.specs.Fetches.{ppu_seen, split_seen}
use Rattle.ppu.specs.Served.{counted_served, pattern_served}
use Rattle.board.specs.declared.Outcome.{Outcome}
use Rattle.board.specs.Outcomes.{outcome}
use Rattle.board_ppu.specs.Fetch.{pattern_pages, ppu_fetch}
use Rattle.board_ppu.specs.Peeks.{chr_word_at, chr_answer}
use Rattle.board_ppu.proofs.Made.{fetch_counted, fetch_other}
use Rattle.theorems_promises.proofs.Gates.{in_range_of}
use Rattle.theorems_promises.proofs.Promised.{who_is_refused}
use Rattle.steps.specs.Sides.{chosen_at}
use Rattle.host_state.specs.Put.{irq_words, tile_words, region_words, set_words, chr_page_words}
use Rattle.host_state.specs.Words.{lengths_of, regs_of, split_of, detector_of, status_of, chr_banks_of, pages_of, chr_numbers, state_of, words_of}
use Rattle.host_state.proofs.Backs.{words_back}
use Rattle.host_state.proofs.Forths.{chr_pages_forth}
use Rattle.host_state.proofs.PartLaws.{part_length}
use Rattle.host_state.proofs.PutLaws.{KeepsFlags, KeepsSplit, KeepsTiles, region_put, tiles_put, set_put, chr_pages_put}
use Rattle.host_answers.specs.Answers.{answer_with_interrupt}
use Rattle.host.specs.Hosted.{left_words, on_words}
use Rattle.host.proofs.HostLaws.{taken_left, status_said, irq_words_lem}

-- The test of refusal 7, on the detector as it was read.
pub counter_said : (s : State) (a : ℕ) (b c : Bool) (d : Detector) → d ≡ s.irq → b ≡ counter_refused d a → b ≡ c → counter_refused s.irq a ≡ c
counter_said s a b c d ed eb tb = rw (← ed) (sym eb ∙ tb)

-- What counting asks of the groups.
pub groups_ranged : (s : State) (d : Detector) (p : PpuStatus) → in_range s ≡ true → d ≡ s.irq → p ≡ s.ppu → (detector_ok d ≡ true) × (tiles_ok p.tile_number ≡ true)
groups_ranged s d p h ed ep = rw (ed, ep) ((ranged s h).detector, (ranged s h).tiles)

-- What a fetch keeps of the status and of the split.
flags_kept : (r : Regs) (m a : ℕ) (p q p' : PpuStatus) → p ≡ q → p' ≡ ppu_seen r m p a → KeepsFlags q p'
unfolding ppu_seen
flags_kept r m a p q p' e e' = record { sprite8x16 = rw (e', e); rendering = rw (e', e); bg_set = rw (e', e); bg_written = rw (e', e) }

same_split : (v : VSplit) → KeepsSplit v v
same_split v = record { mode = refl; enabled = refl; right = refl; tile = refl; scroll = refl; bank = refl }

moved : (v : VSplit) (column scroll : ℕ) (first : Bool) → KeepsSplit v (after_name v column first scroll)
unfolding after_name
moved v column scroll first = record { mode = refl; enabled = refl; right = refl; tile = refl; scroll = refl; bank = refl }

split_kept : (r : Regs) (d : Detector) (t a : ℕ) (v u v' : VSplit) → v ≡ u → v' ≡ split_seen r v d t a → KeepsSplit u v'
unfolding split_seen
split_kept r d t a v u v' e e' = rw (e', e) (pick_keeps (KeepsSplit u) (name_at a && split_active u (nametable_use r) d.in_frame) (moved u (column_of t) (scroll_of d.scanline (is_prefetched t) u.scroll) (is_first t)) (same_split u))

same_tiles : (p : PpuStatus) → KeepsTiles p p
same_tiles p = record { sprite8x16 = refl; rendering = refl; tile_number = refl; tile_cache = refl }

chosen_tiles : (p : PpuStatus) (framed : Bool) → KeepsTiles p (chosen p framed)
unfolding chosen
chosen_tiles p framed = record { sprite8x16 = refl; rendering = refl; tile_number = refl; tile_cache = refl }

tiles_kept : (p q p' : PpuStatus) (framed : Bool) (a : ℕ) → p ≡ q → p' ≡ chosen_at p framed a → KeepsTiles q p'
unfolding chosen_at
tiles_kept p q p' framed a e e' = rw (e', e) (pick_keeps (KeepsTiles q) (ltb a 0x2000) (chosen_tiles q framed) (same_tiles q))

-- The pages of a pattern fetch: as they were where the set is the same, else mapped; and as many.
pages_same : (s : State) (b a g : Bool) → b ≡ s.ppu.bg_set → g ≡ set_changed b a → g ≡ false → pattern_pages s a ≡ s.chr_pages
unfolding pattern_pages
pages_same s b a g eb eg t = rw (← eb, ← eg, t)

pages_mapped : (s : State) (b a g : Bool) (z : Lengths) (r : Regs) (banks : List ℕ) (shown mapped : List PageWord)
    → b ≡ s.ppu.bg_set → g ≡ set_changed b a → g ≡ true → z ≡ s.lengths → r ≡ s.regs → banks ≡ s.chr_banks → shown ≡ s.chr_pages
    → mapped ≡ chr_mapped z.chr z.chr_writable r banks a shown → mapped ≡ pattern_pages s a
unfolding pattern_pages
pages_mapped s b a g z r banks shown mapped eb eg t ez er ek es em = em ∙ rw (← eb, ← eg, t, ez, er, ek, es)

pages_as_many : (s : State) (a : Bool) → length (pattern_pages s a) ≡ length s.chr_pages
unfolding pattern_pages chr_mapped
pages_as_many s a = pick_keeps (λ (l : List PageWord). length l ≡ length s.chr_pages) (set_changed s.ppu.bg_set a) (length_placed s.chr_pages 0 _ 8) refl

-- The tables of words have their lengths.
pages_length : (w : List ℕ) (from n : ℕ) → from + n ≤ length w → length (pages_of (take n (drop from w))) ≡ n
pages_length w from n h = length-map (take n (drop from w)) word ∙ part_length w from n h

module _ (w : List ℕ) (e : length w ≡ 144) where
  prg_length : length (state_of w).prg_pages ≡ 64
  prg_length = pages_length w 64 64 (omega (arith, e))

  chr_length : length (state_of w).chr_pages ≡ 16
  chr_length = pages_length w 128 16 (omega (arith, e))

  pattern_length : (a : Bool) → length (pattern_pages (state_of w) a) ≡ 16
  pattern_length a = pages_as_many (state_of w) a ∙ chr_length

  -- Mapping on a change: the words without one, and with one.
  module _ (h : in_range (state_of w) ≡ true) (b a g : Bool) (eb : b ≡ (state_of w).ppu.bg_set) (eg : g ≡ set_changed b a) where
    pub unmapped_words : g ≡ false → w ≡ words_of (with_chr_pages (state_of w) (pattern_pages (state_of w) a))
    unmapped_words t =
        sym (words_back w e h) ∙ ap (λ (l : List PageWord). words_of (with_chr_pages (state_of w) l)) (sym (pages_same (state_of w) b a g eb eg t))

    pub mapped_words : (z : Lengths) (r : Regs) (banks : List ℕ) (shown mapped : List PageWord) (v : List ℕ) → g ≡ true
        → z ≡ lengths_of w → r ≡ regs_of w → banks ≡ chr_banks_of w → shown ≡ pages_of (chr_numbers w) → mapped ≡ chr_mapped z.chr z.chr_writable r banks a shown
        → v ≡ chr_page_words w mapped → v ≡ words_of (with_chr_pages (state_of w) (pattern_pages (state_of w) a))
    mapped_words z r banks shown mapped v t ez er ek es em ev =
        ev
        ∙ ap (chr_page_words w) (pages_mapped (state_of w) b a g z r banks shown mapped eb eg t ez er ek es em)
        ∙ ap (λ (l : List ℕ). chr_page_words l (pattern_pages (state_of w) a)) (sym (words_back w e h))
        ∙ chr_pages_put (state_of w) (pattern_pages (state_of w) a) prg_length chr_length (pattern_length a)

  -- The word that is read from them.
  word_after : (v : List ℕ) (b : Bool) (x : PageWord) (a : ℕ) → v ≡ words_of (with_chr_pages (state_of w) (pattern_pages (state_of w) b)) → x ≡ chr_word_at (pages_of (chr_numbers v)) a → x ≡ chr_word_at (pattern_pages (state_of w) b) a
  word_after v b x a ev ex =
      ex
      ∙ ap (λ (l : List ℕ). chr_word_at (pages_of (chr_numbers l)) a) ev
      ∙ ap (λ (l : List PageWord). chr_word_at l a) (chr_pages_forth (with_chr_pages (state_of w) (pattern_pages (state_of w) b)) prg_length (pattern_length b))

-- What the board's call makes, by the groups.
module _ (s : State) (m : Mem) (a : ℕ) (r : Regs) (d : Detector) (p : PpuStatus) (v : VSplit) (h : gate_mem s m ≡ Open) (f : counter_refused s.irq a ≡ false)
    (er : r ≡ s.regs) (ed : d ≡ s.irq) (ep : p ≡ s.ppu) (ev : v ≡ s.vsplit) where
  counted_done : (d' : Detector) (p' : PpuStatus) (v' : VSplit) (x : PageWord) (y : Answer) → counted_at a ≡ true
      → d' ≡ seen_at d a → p' ≡ ppu_seen r (seen_at d a).match_count p a → v' ≡ split_seen r v (seen_at d a) (ppu_seen r (seen_at d a).match_count p a).tile_number a
      → x ≡ chr_word_at s.chr_pages a → y ≡ counted_served r v' d'.in_frame p' m.exram a (page_answer m (page_of x) a)
      → ppu_fetch s m a ≡ outcome y (with_vsplit (with_ppu (with_irq s d') p') v')
  unfolding chr_answer
  counted_done d' p' v' x y t ed' ep' ev' ex ey = fetch_counted s m h a f t ∙ rw (ey, ex, ev', ep', ed', er, ed, ep, ev)

  other_done : (p' : PpuStatus) (x : PageWord) (y : Answer) → counted_at a ≡ false
      → p' ≡ chosen_at p d.in_frame a → x ≡ chr_word_at (pattern_pages s p'.bg_set) a
      → y ≡ pick (ltb a 0x2000) (pattern_served r v d p' m.exram m.chr a (page_answer m (page_of x) a)) (page_answer m (page_of x) a)
      → ppu_fetch s m a ≡ outcome y (with_chr_pages (with_ppu s p') (pattern_pages s p'.bg_set))
  unfolding chr_answer
  other_done p' x y t ep' ex ey = fetch_other s m h a f t ∙ rw (ey, ex, ep', er, ed, ep, ev)

  -- Its answer is no refusal.
  answered : (y : Answer) (t : State) → ppu_fetch s m a ≡ outcome y t → is_refused y ≡ false
  answered y t eo = ap (λ (o : Outcome). is_refused o.answer) (sym eo) ∙ who_is_refused.fetch_else s m a h f

-- A fetch that is taken: what it changes is put back into the words.
module _ (w : List ℕ) (m : Mem) (a : ℕ) (r : Regs) (d : Detector) (p : PpuStatus) (v : VSplit) (e : length w ≡ 144) (h : gate_mem (state_of w) m ≡ Open)
    (f : counter_refused (state_of w).irq a ≡ false) (er : r ≡ regs_of w) (ed : d ≡ detector_of w) (ep : p ≡ status_of w) (ev : v ≡ split_of w) where
  status : p ≡ (state_of w).ppu
  status = status_said w p (in_range_of (state_of w) m h) ep

  pub counted_left : (d' : Detector) (p' : PpuStatus) (v' : VSplit) (x : PageWord) (y : Answer) (w₁ w₂ w₃ : List ℕ) (n : ℕ) → counted_at a ≡ true
      → d' ≡ seen_at d a → p' ≡ ppu_seen r (seen_at d a).match_count p a → v' ≡ split_seen r v (seen_at d a) (ppu_seen r (seen_at d a).match_count p a).tile_number a
      → x ≡ chr_word_at (pages_of (chr_numbers w)) a → y ≡ counted_served r v' d'.in_frame p' m.exram a (page_answer m (page_of x) a)
      → w₁ ≡ irq_words w d' → w₂ ≡ tile_words w₁ p' → w₃ ≡ region_words w₂ v' → n ≡ answer_with_interrupt y d' → left_words n w₃ ≡ on_words w (λ (s : State). ppu_fetch s m a)
  counted_left d' p' v' x y w₁ w₂ w₃ n t ed' ep' ev' ex ey e₁ e₂ e₃ en =
      let s = state_of w in
      let done = counted_done s m a r d p v h f er ed status ev d' p' v' x y t ed' ep' ev' ex ey in
      let put₁ : w₁ ≡ words_of (with_irq s d') = irq_words_lem w w₁ d' e (in_range_of s m h) e₁ in
      let put₂ : w₂ ≡ words_of (with_ppu (with_irq s d') p') = e₂ ∙ ap (λ (l : List ℕ). tile_words l p') put₁ ∙ tiles_put (with_irq s d') p' (flags_kept r _ a p s.ppu p' status ep') in
      let put₃ : w₃ ≡ words_of (with_vsplit (with_ppu (with_irq s d') p') v') = e₃ ∙ ap (λ (l : List ℕ). region_words l v') put₂ ∙ region_put (with_ppu (with_irq s d') p') v' (split_kept r _ _ a v s.vsplit v' ev ev') in
      taken_left w w₃ (λ (s : State). ppu_fetch s m a) y (with_vsplit (with_ppu (with_irq s d') p') v') n (answered s m a r d p v h f er ed status ev y _ done) done put₃ en

  pub other_left : (p' : PpuStatus) (x : PageWord) (y : Answer) (w₁ w₂ : List ℕ) (n : ℕ) → counted_at a ≡ false
      → p' ≡ chosen_at p d.in_frame a → w₁ ≡ words_of (with_chr_pages (state_of w) (pattern_pages (state_of w) p'.bg_set)) → x ≡ chr_word_at (pages_of (chr_numbers w₁)) a
      → y ≡ pick (ltb a 0x2000) (pattern_served r v d p' m.exram m.chr a (page_answer m (page_of x) a)) (page_answer m (page_of x) a)
      → w₂ ≡ set_words w₁ p' → n ≡ answer_with_interrupt y d → left_words n w₂ ≡ on_words w (λ (s : State). ppu_fetch s m a)
  other_left p' x y w₁ w₂ n t ep' e₁ ex ey e₂ en =
      let s = state_of w in
      let pages = pattern_pages s p'.bg_set in
      let done = other_done s m a r d p v h f er ed status ev p' x y t ep' (word_after w e w₁ p'.bg_set x a e₁ ex) ey in
      let put : w₂ ≡ words_of (with_chr_pages (with_ppu s p') pages) = e₂ ∙ ap (λ (l : List ℕ). set_words l p') e₁ ∙ set_put (with_chr_pages s pages) p' (tiles_kept p s.ppu p' d.in_frame a status ep') in
      taken_left w w₂ (λ (s : State). ppu_fetch s m a) y (with_chr_pages (with_ppu s p') pages) n (answered s m a r d p v h f er ed status ev y _ done) done put (en ∙ ap (answer_with_interrupt y) ed)
