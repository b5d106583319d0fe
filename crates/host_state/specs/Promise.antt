-- What is promised of words. `ranges`: the state that they stand for is in range exactly when no word is above its limit, word 16 is 1, and each page is one
-- that its table may show. That no limit is too high is `ranges`; that none is too low is `forth`, since words above a limit stand for a broken state.
-- `back`: words in range are the words of their state. Assumes the lengths and the types that the host lends.
use Rattle.std.specs.Prelude.{ℕ, true, ◌&&◌, List, ◌≡◌, length}
use Rattle.memory.specs.Tables.{prg_table_ok, chr_table_ok}
use Rattle.state.specs.declared.State.{State}
use Rattle.state.specs.Ranges.{in_range}
use Rattle.host_state.specs.Fits.{Fits}
use Rattle.host_state.specs.Words.{within_limits, flag_at, lengths_of, pages_of, prg_numbers, chr_numbers, state_of, words_of}

pub record WordsAndStates : Type 0 where
  pub ranges : (w : List ℕ)
      → in_range (state_of w)
      ≡ within_limits w && (flag_at w 16
      && (prg_table_ok (lengths_of w).prg (lengths_of w).ram (pages_of (prg_numbers w)) && chr_table_ok (lengths_of w).chr (lengths_of w).chr_writable (pages_of (chr_numbers w))))
  pub back : (w : List ℕ) → length w ≡ 144 → in_range (state_of w) ≡ true → words_of (state_of w) ≡ w
  pub forth : (s : State) → Fits s → in_range s ≡ true → state_of (words_of s) ≡ s
