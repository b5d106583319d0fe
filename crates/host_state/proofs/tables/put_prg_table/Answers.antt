-- The numbers, pasted at 64.
use Rattle.std.proofs.Common.{refl, sym, ◌∙◌, rules}
use Rattle.std.proofs.lemmas.Slice.{put_mid-paste}
use Rattle.memory.specs.PageWords.{word}
use Rattle.host_state.specs.Words.{page_number}
use Rattle.host_state.proofs.ArrayLaws.{array_made}
use Rattle.host_state.proofs.PartLaws.{numbers_length}
use Rattle.host_state.proofs.tables.put_prg_table.Goals as goal

pub returns : goal.returns
returns c =
    let pages = c.args.pages in
    let numbers = array_made page_number pages (word 0) 64 (search rules) c.from_fn-numbers.ensures.items (λ i y q small called. search rules) in
    put_mid-paste 64 64 c.args.words.now _ _ 64 (c.copy_from_slice.ensures.after ∙ numbers) refl (sym (numbers_length pages 64 (search rules)))
