-- `mosaic_candidates::hypothesis::Hypothesis::start` meets its contract. Assumes nothing.
use lib.Ieee.{round, of_int, of_bits}
use Rattle.mosaic_candidates.specs.Progress.{start_value, progress_start}
use Rattle.mosaic_candidates.proofs.hypothesis.Hypothesis.start.Goals as goal

pub returns-then-any_somatic : goal.returns-then-any_somatic
unfolding start_value progress_start round of_int of_bits
returns-then-any_somatic c = rw (← c.any_somatic.ensures, c.if-any_somatic.true, c.gain.ensures, c.start_vafs-vafs.ensures)

pub returns-else-any_somatic : goal.returns-else-any_somatic
unfolding start_value progress_start round of_int of_bits
returns-else-any_somatic c =
    rw (← c.any_somatic.ensures, c.if-any_somatic.false, c.likelihood.ensures, c.gain.ensures, c.start_vafs-vafs.ensures)
