-- The interrupt along a history is `up` of it; so the lines of a transcript are told by the history of their records.
use Prim.Native.Nat.{ℕ, zero, suc, ◌+◌, ◌≤◌}
use mathlib.Core.Bool.{Bool, true, false, false≢true}
use mathlib.Core.List.{List, [], ◌∷◌, ◌++◌, map}
use mathlib.Core.Logic.{◌↔◌}
use mathlib.Core.Path.{◌≡◌, refl, sym, ◌∙◌, ap}
use native.Mathlib.Numerals.{add-one}
use native.Mathlib.Omega.{arith}
use lib.ListN.{length, drop, get_or}
use Rattle.memory.specs.Bits.{as_bit}
use Rattle.memory.proofs.Tests.{same_test}
use Rattle.answers.specs.declared.Answer.{Answer}
use Rattle.answers.specs.declared.Refusal.{Refusal}
use Rattle.answers.specs.Refused.{is_refused, if_refused}
use Rattle.answers.proofs.Cases.{refused_or_not, accepted_goes_on}
use Rattle.scanline.specs.Steps.{interrupt_up}
use Rattle.trace.specs.declared.Call.{Call}
use Rattle.trace.specs.Records.{kind_of, record_at}
use Rattle.text.specs.Digits.{before, digits}
use Rattle.text.specs.Lines.{accepted_line}
use Rattle.text.specs.Sheet.{Sheet, sheet, text_written}
use Rattle.text.proofs.SheetLaws.{fits}
use Rattle.theorems_scanlines.specs.Told.{up}
use Rattle.theorems_scanlines.specs.Calls.{history_of}
use Rattle.theorems_scanlines.specs.Calls.Played.{at_load, taken}
use Rattle.theorems_scanlines.proofs.Worked.{tests_are_sentences}
use Rattle.player.proofs.Ways.{found_same}
use Rattle.logs.specs.Logs.{log_letter}
use Rattle.transcript.specs.Lines.{lines_from}
use Rattle.transcript.proofs.Transcribed.{transcript_is_lines}
use Rattle.theorems_histories.specs.Boards.{Board, Made, says, leaves, number, number_in}
use Rattle.theorems_histories.specs.Boards.Made.{call}
use Rattle.theorems_histories.specs.Histories.{Load, first, Reached}
use Rattle.theorems_histories.specs.Watching.{view, event}
use Rattle.theorems_histories.specs.Replays.{answer_at}
use Rattle.theorems_histories.proofs.Behind.{given}
use Rattle.theorems_histories.proofs.Demands.{board_demand_3}
use Rattle.theorems_host.specs.Printed.{lines_after, inserted, TranscriptIsHistory}

module _ (l : Load) where
  pub up_along : {cs : List Made} {b : Board} → Reached l cs b → interrupt_up (view b) ≡ up (history_of event cs)
  up_along {cs} {b} r =
      let i = (board_demand_3 l).interrupt r in
      let s = (tests_are_sentences (history_of event cs)).1 in
      same_test (interrupt_up (view b)) (up (history_of event cs)) (λ t. s.1 (i.0 t)) (λ t. i.1 (s.0 t))

  -- The next call, where it is accepted.
  pub onward : {cs : List Made} {b : Board} (c : Made) → Reached l cs b → number (says b c) ≡ 0 → Reached l (c ∷ cs) (leaves b c)
  onward c r n = taken c r (record { accepted = n; left = refl })

pub says_none : (b : Board) (c : Call) → number_in (answer_at b c) ≡ 0 → number (says b (call c)) ≡ 0
unfolding says number
says_none b c n = n

-- Lines that are the same where a call is accepted.
answered_same : (a : Answer) (stop : Refusal → List ℕ) (x y : List ℕ) → (is_refused a ≡ false → x ≡ y) → if_refused a stop x ≡ if_refused a stop y
answered_same a stop x y h = refused_or_not a (λ why e. rw e) (λ n. accepted_goes_on a stop x n ∙ h n ∙ sym (accepted_goes_on a stop y n))

heard_lines : (l : Load) (k : ℕ) (trace : List ℕ) (at : ℕ) (cs : List Call) (b : Board) → Reached l (map call cs) b → lines_from k trace at (length cs) b.state b.mem ≡ lines_after k trace at cs b
unfolding lines_from lines_after leaves
heard_lines l zero trace at cs b r = refl
heard_lines l (suc k) trace at cs b r =
    found_same (record_at trace at) _ _ _ _ (λ c next e. answered_same (answer_at b c) _ _ _ (λ n.
    let s = onward l (call c) r (says_none b c (given (answer_at b c) n)) in
    let b' = leaves b (call c) in
    let same = ap (λ (d : Bool). accepted_line (length cs) (kind_of c) (answer_at b c) d) (up_along l s) in
    let rest = ap (λ (i : ℕ). lines_from k trace next i b'.state b'.mem) (add-one (length cs)) ∙ heard_lines l k trace next (c ∷ cs) b' s in
    rw (same, rest)))

-- The digit, by its value.
one_digit : (d : Bool) → (digits (as_bit d) ≡ 0x31 ∷ []) ↔ (d ≡ true)
unfolding before
one_digit true = (λ e. refl, λ e. refl)
one_digit false = (λ e. absurd (omega (arith, ap (λ (x : List ℕ). get_or x 0 0) e)), λ e. absurd (false≢true e))

-- The text stands whole where it finds room.
stands_whole : (out xs : List ℕ) (out' : List ℕ) (r : ℕ) → sheet out' r ≡ text_written (sheet out 0) xs → length xs ≤ length out → (r ≡ length xs) × (out' ≡ xs ++ drop (length xs) out)
stands_whole out xs out' r e h =
    let q = e ∙ fits out 0 xs (omega (arith, h)) in
    let z : 0 + length xs ≡ length xs = omega arith in
    (ap (λ (s : Sheet). s.place) q ∙ z, ap (λ (s : Sheet). s.bytes) q ∙ ap (λ (i : ℕ). xs ++ drop i out) z)

pub transcript_is_history : TranscriptIsHistory
transcript_is_history = record {
  loads = transcript_is_lines.loads;
  lines = λ trace h. transcript_is_lines.lines trace h ∙ heard_lines (inserted transcript_is_lines.loads) (suc (length trace)) trace 0 [] (first (inserted transcript_is_lines.loads)) at_load;
  digit = λ cs. let h = history_of event (map call cs) in
      let d = one_digit (up h) in
      let s = (tests_are_sentences h).1 in
      (λ e. s.0 (d.0 e), λ u. d.1 (s.1 u));
  letter = λ l cs b c r n. ap (log_letter (answer_at b c)) (up_along l (onward l (call c) r n));
  whole = λ κ a r e t h. stands_whole _ _ _ r t (omega (arith, h, transcript_is_lines.room a.1.0.now));
}
