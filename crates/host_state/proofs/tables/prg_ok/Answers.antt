-- The furthest place against the number of places.
use Rattle.std.proofs.Common.{◌≡◌, ℕ, ◌+◌, max, rules, arith}
use Rattle.std.specs.List.{fold}
use Rattle.memory.specs.ForCode.{prg_place}
use Rattle.memory.specs.PageWords.{word}
use Rattle.host_state.specs.Words.{prg_numbers}
use Rattle.host_state.proofs.FoldLaws.{furthest_test}
use Rattle.host_state.proofs.PartLaws.{part_at, part_length}
use Rattle.host_state.proofs.tables.prg_ok.Goals as goal

pub returns : goal.returns
returns c =
    let a = c.args in
    let w = a.words.now in
    let furthest : c.fold-furthest.result ≡ fold (λ (t n : ℕ). max t (prg_place a.ram_len (word n))) 0 (prg_numbers w) = search rules in
    rw (furthest, c.prg_places.ensures) (furthest_test a.prg_len a.ram_len (prg_numbers w) c.requires.0 c.requires.1
    (λ i h. rw (part_at w 64 64 i (omega (arith, h, part_length w 64 64 (search rules)))) (c.fits-words (64 + i))))
