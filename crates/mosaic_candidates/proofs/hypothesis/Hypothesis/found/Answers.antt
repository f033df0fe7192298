-- `mosaic_candidates::hypothesis::Hypothesis::found` meets its contract. Assumes nothing.
use Rattle.std.proofs.Common.{rules}
use Rattle.mosaic_candidates.specs.Progress.{progress_offered}
use Rattle.mosaic_candidates.proofs.hypothesis.Hypothesis.found.Goals as goal

pub loop-i-preserved : goal.loop-i-preserved
unfolding progress_offered
loop-i-preserved c = search rules
