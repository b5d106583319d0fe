-- `promises` holds: the ranges are kept, by `ranges_kept`; the two clocks are one, by `same_clock`; the count turns over, by `turns` and `four_looks`; the
-- worked cases, by computation.
use Rattle.memory.specs.Tests.{all}
use Rattle.scanline.specs.Clock.{tick}
use Rattle.scanline.specs.Ranges.{detector_ok, line_refused, counter_refused}
use Rattle.scanline.specs.Steps.{again, matches_after, is_line, meets, seen_at}
use Rattle.scanline.specs.Tiles.{sprite_fetch, column_of, is_prefetched, is_first, fold, tiles_ok, next_tile}
use Rattle.scanline.proofs.ClockLaws.{same_clock}
use Rattle.scanline.proofs.FoldLaws.{turns, four_looks}
use Rattle.scanline.proofs.RangeLaws.{ranges_kept}
use Rattle.scanline.proofs.promises.Goals as goal

pub returns : goal.returns
unfolding detector_ok line_refused counter_refused sprite_fetch column_of is_prefetched is_first fold tiles_ok next_tile tick again matches_after is_line meets seen_at all
returns c = (ranges_kept, same_clock, turns, four_looks, tt)
