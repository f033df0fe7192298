-- The loop's invariant: the sum is that of the first `i` alleles. Assumes nothing.
use mathlib.Core.Path.{◌≡◌}
use Rattle.mosaic_candidates.specs.Shares.{mass_over}
use Rattle.mosaic_candidates.proofs.hypothesis.Hypothesis.mass.Given as goal

abbrev pub invariant-loop-i : goal.invariant-loop-i
invariant-loop-i l = l.sum ≡ mass_over l.self.counts.now l.self.pair l.vafs l.i
