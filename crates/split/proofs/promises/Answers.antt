-- Each promise is a law of `ControlLaws`, `RegionLaws` or `PlaceLaws`.
use Rattle.split.proofs.ControlLaws.{load_in_ranges, control_keeps_ranges, scroll_keeps_ranges, bank_keeps_ranges}
use Rattle.split.proofs.PlaceLaws.{attribute_inside, shift_small, shift_even, pattern_inside}
use Rattle.split.proofs.RegionLaws.{scroll_small, name_keeps_ranges, column_32_inside, in_region_lem}
use Rattle.split.proofs.promises.Goals as goal

pub returns : goal.returns
returns c = (record { scroll_small = scroll_small; load_in_ranges = load_in_ranges; control_keeps_ranges = control_keeps_ranges; scroll_keeps_ranges = scroll_keeps_ranges; bank_keeps_ranges = bank_keeps_ranges; name_keeps_ranges = name_keeps_ranges; attribute_inside = attribute_inside; shift_small = shift_small; shift_even = shift_even; pattern_inside = pattern_inside }, column_32_inside, in_region_lem)
