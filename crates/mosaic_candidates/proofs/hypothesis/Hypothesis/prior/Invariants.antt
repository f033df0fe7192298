-- The loop's invariant: the sum is that of the first `i` alleles. Assumes nothing.
use mathlib.Core.Path.{◌≡◌}
use Rattle.mosaic_candidates.specs.Progress.{prior_by_over}
use Rattle.mosaic_candidates.proofs.hypothesis.Hypothesis.prior.Given as goal

abbrev pub invariant-loop-i : goal.invariant-loop-i
invariant-loop-i l = l.sum ≡ prior_by_over l.self.counts.now l.self.pair l.gains l.i
