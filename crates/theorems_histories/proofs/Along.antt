-- Along a history: the gate is open, refusals are 6 and 7 as told, and which histories there are.
use mathlib.Core.Bool.{true, not}
use mathlib.Core.List.{List, [], ◌∷◌}
use mathlib.Core.Path.{◌≡◌, refl, sym, ◌∙◌, ap}
use borrow.Author.Tests.{eqb-true, eq-eqb}
use lib.ListN.{length}
use Rattle.memory.proofs.Tests.{pick_keeps, and_left, and_right, and_both}
use Rattle.registers.specs.declared.Mirroring.{Mirroring}
use Rattle.scanline.specs.declared.Detector.{Detector}
use Rattle.scanline.specs.Steps.{detector_at_load}
use Rattle.state.specs.declared.Lengths.{Lengths}
use Rattle.state.specs.declared.State.{State}
use Rattle.state.specs.Gate.{Open, gate_mem}
use Rattle.state.specs.Lengths.{prg_taken, chr_taken, ram_taken}
use Rattle.board.specs.declared.Outcome.{Outcome}
use Rattle.board.specs.Loads.{zero_state, recorded, load_call, loaded_state}
use Rattle.theorems_scanlines.specs.Run.{run}
use Rattle.theorems_scanlines.specs.Calls.{history_of}
use Rattle.theorems_scanlines.specs.Calls.Played.{at_load, taken}
use Rattle.theorems_scanlines.proofs.Transfer.{seen}
use Rattle.theorems_promises.proofs.Promised.{gate_stays_open}
use Rattle.theorems_promises.proofs.Addresses.{address_stays}
use Rattle.theorems_promises.proofs.Gates.{in_range_of}
use Rattle.player.proofs.Steps.{call_open}
use Rattle.theorems_histories.specs.Boards.{Board, Made, says, leaves, number}
use Rattle.theorems_histories.specs.Boards.Made.{call, peek, ppu_peek_lem, sprite_peek_lem, mirroring_asked, interrupt_asked, cpu_page, ppu_page}
use Rattle.theorems_histories.specs.Histories.{Load, first, Takes, Leads, Reached}
use Rattle.theorems_histories.specs.Watching.{view, event}
use Rattle.theorems_histories.specs.Accepted.{refusal, acceptable, Along}
use Rattle.theorems_histories.proofs.Behind.{exactly}
use Rattle.theorems_histories.proofs.Following.{follows}

-- A board behind an open gate.
abbrev pub Opened : Board → Type 0
Opened b = gate_mem b.state b.mem ≡ Open

stays_open : (b : Board) (c : Made) → Opened b → Opened (leaves b c)
unfolding leaves
stays_open b (call c) h = call_open c b.state b.mem h
stays_open b (peek a) h = h
stays_open b (ppu_peek_lem a) h = h
stays_open b (sprite_peek_lem a) h = h
stays_open b mirroring_asked h = h
stays_open b interrupt_asked h = h
stays_open b (cpu_page a) h = h
stays_open b (ppu_page a) h = h

pub open_on : {a : Board} → Opened a → {cs : List Made} {b : Board} → Leads a cs b → Opened b
open_on h at_load = h
open_on h (taken {s = b} c r t) = rw t.left (stays_open b c (open_on h r))

pub open_along : (l : Load) {cs : List Made} {b : Board} → Reached l cs b → Opened b
open_along l r = open_on (gate_stays_open.load l.mem l.as_ram l.mirroring l.accepted) r

-- The detector, told by the calls alone ------------------------------------------------------------------------------------------------

-- what holds of the zero state and of every state that load makes
pub at_first : (l : Load) (P : State → Type 0) → P zero_state → ((z : Lengths) (m : Mirroring) → P (loaded_state z m)) → P (first l).state
unfolding load_call
at_first l P zero made =
    let Q : Outcome → Type 0 = λ (o : Outcome). P o.state in
    pick_keeps Q (not (prg_taken (length l.mem.prg))) zero
    (pick_keeps Q (not (chr_taken (length l.mem.chr))) zero
    (pick_keeps Q (not (ram_taken (length l.mem.ram) (length l.mem.ciram) (length l.mem.exram))) zero (made (recorded l.mem l.as_ram) l.mirroring)))

pub starts : (l : Load) → view (first l) ≡ detector_at_load
unfolding loaded_state
starts l = at_first l (λ (s : State). s.irq ≡ detector_at_load) refl (λ z m. refl)

pub told_along : (l : Load) {cs : List Made} {b : Board} → Reached l cs b → view b ≡ run (history_of event cs)
told_along l r = seen Board Made (first l) Takes view event (starts l) follows r

-- Which histories there are -------------------------------------------------------------------------------------------------------------

pub number_told : (l : Load) {cs : List Made} {b : Board} → Reached l cs b → (c : Made) → number (says b c) ≡ refusal (run (history_of event cs)) c
number_told l {b = b} r c = exactly b c (open_along l r) ∙ ap (λ (d : Detector). refusal d c) (told_along l r)

are_acceptable : (l : Load) {cs : List Made} {b : Board} → Reached l cs b → acceptable cs ≡ true
unfolding acceptable
are_acceptable l at_load = refl
are_acceptable l (taken {cs = cs} {s = b} c r t) = and_both _ _ (are_acceptable l r) (eq-eqb _ 0 (sym (number_told l r c) ∙ t.accepted))

pub are_reached : (l : Load) (cs : List Made) → acceptable cs ≡ true → (b : Board) × Reached l cs b
unfolding acceptable
are_reached l [] e = (first l, at_load)
are_reached l (c ∷ cs) e =
    let p = are_reached l cs (and_left (acceptable cs) _ e) in
    let n : refusal (run (history_of event cs)) c ≡ 0 = eqb-true _ 0 (and_right (acceptable cs) _ e) in
    (leaves p.0 c, taken c p.1 (record { accepted = number_told l p.1 c ∙ n; left = refl }))

pub along : Along
along = record {
  gate = λ l cs b r. open_along l r;
  address = λ l cs b r. address_stays.found b.state (in_range_of b.state b.mem (open_along l r));
  refused = λ l cs b r c. exactly b c (open_along l r);
  told = λ l cs b r. told_along l r;
  all_of_them = λ l cs. (λ p. are_acceptable l p.1, are_reached l cs);
}
