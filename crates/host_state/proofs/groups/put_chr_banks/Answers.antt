-- The banks as words, pasted at 47.
use Rattle.std.proofs.Common.{ℕ, refl, ◌∙◌, rules}
use Rattle.std.proofs.lemmas.List.{map-id}
use Rattle.std.proofs.lemmas.Slice.{put_mid-paste}
use Rattle.host_state.proofs.ArrayLaws.{array_mapped}
use Rattle.host_state.proofs.groups.put_chr_banks.Goals as goal

pub returns : goal.returns
returns c =
    let b = c.args.b in
    let words = array_mapped (λ (x : ℕ). x) b 0 16 (search rules) c.map.ensures.items (λ p x y q called. search rules) in
    put_mid-paste 47 16 c.args.words.now _ _ 16 (c.copy_from_slice.ensures.after ∙ words ∙ map-id b) refl (search rules)
