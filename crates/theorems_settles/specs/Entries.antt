-- The contracts of the entry points and of what is public beside them, function by function, crate by crate. A refusal is a result as any
-- other. A view's contract settles its bytes; that they are a part of the lent buffer is the signature's lifetime.
-- Assumes nothing.
use Rattle.std.specs.Prelude.{[]}
use Rattle.board.specs.Outcomes.{after_of}
use Rattle.player.specs.Replay.{left_of}
use Rattle.text.specs.Sheet.{sheet}
use Rattle.theorems_settles.specs.OwnEntries.{board_clock, board_cpu_read, board_cpu_peek, board_cpu_write, board_refuse, board_load, board_ppu_register, board_reset, board_mirroring, board_interrupt_up, board_ppu_ppu_fetch, board_ppu_chr_word_at, board_ppu_ppu_peek, board_ppu_sprite_peek, board_ppu_ppu_write, views_cpu_view, views_ppu_view, trace_kind_of, trace_too_long, trace_address_at, trace_value_at, trace_record_at, trace_first_record, calls_call_on, text_logged_line, text_refused_line, text_unreadable_line, text_too_long_line, text_end_line, text_put, text_decimal, text_number, text_letter, logs_log_record, steps_read, steps_store, steps_exram_word, steps_count_fetch, steps_counted_answer, steps_chosen_at, steps_map_on_change, steps_other_answer, steps_write_prg, steps_write_other, player_replay, player_play, transcript_print, transcript_transcribe}
use Rattle.calls.specs.Lent.{mem_left}
use Rattle.theorems_settles.specs.Settled.{Result, Settles}

pub record Board : Type 0 where
  pub clock : Result board_clock.Learnt
  pub cpu_read : Result board_cpu_read.Learnt
  pub cpu_peek : Result board_cpu_peek.Learnt
  pub cpu_write : Settles board_cpu_write.Learnt (λ κ a r e. after_of r (mem_left a.1.0.now e.1.1))
  pub refuse : Result board_refuse.Learnt
  pub load : Result board_load.Learnt
  pub ppu_register : Result board_ppu_register.Learnt
  pub reset : Result board_reset.Learnt
  pub mirroring : Result board_mirroring.Learnt
  pub interrupt_up : Result board_interrupt_up.Learnt

pub record BoardPpu : Type 0 where
  pub ppu_fetch : Result board_ppu_ppu_fetch.Learnt
  pub chr_word_at : Result board_ppu_chr_word_at.Learnt
  pub ppu_peek_call : Result board_ppu_ppu_peek.Learnt
  pub sprite_peek_call : Result board_ppu_sprite_peek.Learnt
  pub ppu_write_call : Settles board_ppu_ppu_write.Learnt (λ κ a r e. after_of r (mem_left a.1.0.now e.1.1))

pub record Views : Type 0 where
  pub cpu_view : Settles views_cpu_view.Learnt (λ κ a r e. r.now)
  pub ppu_view : Settles views_ppu_view.Learnt (λ κ a r e. r.now)

pub record Trace : Type 0 where
  pub kind_of : Result trace_kind_of.Learnt
  pub too_long : Result trace_too_long.Learnt
  pub address_at : Result trace_address_at.Learnt
  pub value_at : Result trace_value_at.Learnt
  pub record_at : Result trace_record_at.Learnt
  pub first_record : Result trace_first_record.Learnt

pub record Calls : Type 0 where
  pub call_on : Settles calls_call_on.Learnt (λ κ a r e. after_of r (mem_left a.1.0.now e.1.1))

pub record Text : Type 0 where
  pub logged_line : Settles text_logged_line.Learnt (λ κ a r e. e.0.now)
  pub refused_line : Settles text_refused_line.Learnt (λ κ a r e. e.0.now)
  pub unreadable_line : Settles text_unreadable_line.Learnt (λ κ a r e. e.0.now)
  pub too_long_line : Settles text_too_long_line.Learnt (λ κ a r e. e.0.now)
  pub end_line : Settles text_end_line.Learnt (λ κ a r e. e.0.now)
  pub put : Settles text_put.Learnt (λ κ a r e. e.0.now)
  pub decimal : Settles text_decimal.Learnt (λ κ a r e. e.0.now)
  pub number : Settles text_number.Learnt (λ κ a r e. e.0.now)
  pub letter : Settles text_letter.Learnt (λ κ a r e. e.0.now)

pub record Logs : Type 0 where
  pub log_record : Settles logs_log_record.Learnt (λ κ a r e. e.0.now)

pub record Steps : Type 0 where
  pub read : Result steps_read.Learnt
  pub store : Settles steps_store.Learnt (λ κ a r e. mem_left [] e)
  pub exram_word : Result steps_exram_word.Learnt
  pub count_fetch : Result steps_count_fetch.Learnt
  pub counted_answer : Result steps_counted_answer.Learnt
  pub chosen_at : Result steps_chosen_at.Learnt
  pub map_on_change : Result steps_map_on_change.Learnt
  pub other_answer : Result steps_other_answer.Learnt
  pub write_prg : Result steps_write_prg.Learnt
  pub write_other : Result steps_write_other.Learnt

pub record Player : Type 0 where
  pub replay : Settles player_replay.Learnt (λ κ a r e. left_of r (mem_left a.1.1.0.now e.1.1.1) e.1.1.1.1.1.1.1.0.now)
  pub play : Settles player_play.Learnt (λ κ a r e. left_of r (mem_left a.1.1.0.now e.1.1.1) e.1.1.1.1.1.1.1.0.now)

pub record Transcript : Type 0 where
  pub print : Settles transcript_print.Learnt (λ κ a r e. sheet e.0.now r)
  pub transcribe : Settles transcript_transcribe.Learnt (λ κ a r e. sheet e.0.now r)
