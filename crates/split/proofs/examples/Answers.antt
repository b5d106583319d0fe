-- Each case is computed.
use mathlib.Core.Path.{refl}
use Rattle.memory.specs.Tests.{all}
use Rattle.split.specs.Examples.{Examples, split_cases}
use Rattle.split.specs.Places.{attribute_address, attribute_shift, mirrored_byte, pattern_offset}
use Rattle.split.specs.Region.{side_at, region_at, split_address, after_name}
use Rattle.split.proofs.examples.Goals as goal

pub returns : goal.returns
unfolding all split_cases Examples side_at region_at split_address after_name attribute_address attribute_shift mirrored_byte pattern_offset
returns c = refl
