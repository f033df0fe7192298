-- The loop's invariant: the steps below `step` have been tried. Assumes nothing.
use mathlib.Core.Path.{◌≡◌}
use Rattle.lists.specs.Over.{over}
use Rattle.mosaic_candidates.specs.Progress.{progress_step}
use Rattle.mosaic_candidates.proofs.hypothesis.Hypothesis.search_allele.Given as goal

abbrev pub invariant-loop-step : goal.invariant-loop-step
invariant-loop-step l =
    let s = l.self in
    l.kept ≡ over (progress_step s.counts.now s.pair s.shared.now l.i) l.initial.kept l.step
