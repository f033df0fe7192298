-- `mosaic_candidates::hypothesis::Hypothesis::germline_share` meets its contract. Assumes nothing.
use lib.Ieee.{round, of_int, of_bits}
use Rattle.mosaic_candidates.specs.Shares.{germline_share}
use Rattle.mosaic_candidates.proofs.hypothesis.Hypothesis.germline_share.Goals as goal

pub returns-then-is_alone : goal.returns-then-is_alone
unfolding germline_share round of_int of_bits
returns-then-is_alone c = rw (← c.is_alone.ensures, c.if-is_alone.true) c.max-rest.ensures

pub returns-else-is_alone : goal.returns-else-is_alone
unfolding germline_share round of_int of_bits
returns-else-is_alone c = rw (← c.is_alone.ensures, c.if-is_alone.false, c.max-rest.ensures)
