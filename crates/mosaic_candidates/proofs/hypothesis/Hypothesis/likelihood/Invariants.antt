-- The loop's invariant: the sum is that of the first `i` alleles. Assumes nothing.
use mathlib.Core.Path.{◌≡◌}
use Rattle.mosaic_candidates.specs.Progress.{likelihood_by_over}
use Rattle.mosaic_candidates.proofs.hypothesis.Hypothesis.likelihood.Given as goal

abbrev pub invariant-loop-i : goal.invariant-loop-i
invariant-loop-i l =
    let s = l.self in
    l.sum ≡ likelihood_by_over s.counts.now s.pair s.shared.now.of_total s.shared.now.factorials l.terms l.ln_share l.i
