-- The loop's invariant: the first `i` alleles have been searched. Assumes nothing.
use mathlib.Core.Path.{◌≡◌}
use Rattle.lists.specs.Over.{over}
use Rattle.mosaic_candidates.specs.Progress.{progress_offered}
use Rattle.mosaic_candidates.proofs.hypothesis.Hypothesis.found.Given as goal

abbrev pub invariant-loop-i : goal.invariant-loop-i
invariant-loop-i l =
    let s = l.self in
    l.best ≡ over (progress_offered s.counts.now s.pair s.shared.now) l.initial.best l.i
