-- A weight may stand in a place that is in use. Assumes nothing.
use lib.Ieee.{round, of_int, of_bits}
use Rattle.trio_parts.specs.Part.{weight_allowed}
use Rattle.trio_parts.proofs.shape.F64Place.may_stand.Goals as goal

pub returns : goal.returns
unfolding weight_allowed round of_int of_bits
returns c = c.in_range.ensures
