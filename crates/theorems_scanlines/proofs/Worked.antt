-- The worked histories hold, by computation; the wait's hypotheses can be met by calls that are taken.
-- Assumes nothing.
use mathlib.Core.Path.{◌≡◌, refl}
use mathlib.Core.Bool.{true, not, false≢true}
use mathlib.Core.List.{[], ◌∷◌, ◌++◌}
use native.Mathlib.Omega.{arith}
use borrow.Author.Tests.{not-true}
use Rattle.memory.specs.Tests.{all}
use Rattle.memory.proofs.Tests.{and_left, and_right}
use Rattle.scanline.specs.Ranges.{line_refused, counter_refused}
use Rattle.scanline.specs.Clock.{tick}
use Rattle.scanline.specs.Steps.{again, matches_after, is_line, meets, seen_at}
use Rattle.theorems_scanlines.specs.Events.{is_clock, fetches, reads, writes, darkens, address, value, counts, vectors, clears}
use Rattle.theorems_scanlines.specs.Told.{idle, row, breaks, recent, alike, line_at, lines, is_in_frame, last_write, had_bit7, new_lines, calm, is_value, hits, flag_told, up, TestsAreSentences, told_status}
use Rattle.theorems_scanlines.specs.Calls.{History}
use Rattle.theorems_scanlines.specs.Machine.{event_refused, tiles_by, watched, all_taken}
use Rattle.theorems_scanlines.specs.Run.{step}
use Rattle.theorems_scanlines.specs.Promise.{LedTo}
use Rattle.theorems_scanlines.specs.Calls.Played.{at_load, taken}
use Rattle.theorems_scanlines.specs.Cases.{after, right, Cases, waiting_from, between, last, Worked}
use Rattle.theorems_scanlines.proofs.Flag.{flag_iff, up_iff}

pub cases : Cases
unfolding line_refused counter_refused after told_status right all step event_refused tiles_by watched all_taken tick again matches_after is_line meets seen_at is_clock fetches reads writes darkens address value counts vectors clears idle row breaks recent alike line_at lines is_in_frame last_write had_bit7 is_value hits flag_told up
cases = tt

pub tests_are_sentences : TestsAreSentences
tests_are_sentences h = (flag_iff h, up_iff h)

-- calls that are all taken reach what they leave
pub reached : (h : History) → all_taken h ≡ true → LedTo h (watched h)
unfolding all_taken watched
reached [] p = at_load
reached (e ∷ h) p = taken e (reached h (and_left (all_taken h) (not (event_refused (watched h).detector e)) p)) (record { allowed = not-true (event_refused (watched h).detector e) (and_right (all_taken h) (not (event_refused (watched h).detector e)) p); moved = refl })

pub worked : Worked
unfolding line_refused counter_refused step event_refused tiles_by watched all_taken tick again matches_after is_line meets seen_at is_clock fetches reads writes darkens address value counts vectors clears idle row breaks recent alike line_at lines is_in_frame last_write had_bit7 is_value hits flag_told calm new_lines
worked = record {
  waiting = record { at_line = refl; clear = λ f. false≢true ((flag_iff waiting_from).1 f); enabled = refl; target = refl; ahead = omega arith; byte = omega arith };
  undisturbed = refl;
  short = refl;
  reached_short = reached (between ++ waiting_from) refl;
  line = refl;
  full = refl;
  reached_full = reached (last ∷ (between ++ waiting_from)) refl;
}
