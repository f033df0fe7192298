-- `mosaic_candidates::hypothesis::Hypothesis::search_allele` meets its contract. Assumes nothing.
use Rattle.std.proofs.Common.{arith, add-one, ◌≡◌, ◌∙◌}
use lib.Ieee.{round, of_int, of_bits}
use Rattle.mosaic_candidates.specs.Progress.{progress_step, progress_allele}
use Rattle.mosaic_candidates.proofs.hypothesis.Hypothesis.search_allele.Goals.{then-x, else-x}
use Rattle.mosaic_candidates.proofs.hypothesis.Hypothesis.search_allele.Goals as goal

pub loop-step-preserved : goal.loop-step-preserved
unfolding progress_step round of_int of_bits
loop-step-preserved c =
    rw (add-one, ← c.loop-step.invariant)
    (elim c.if-x.branch [
      | then-x w ↦ rw w.if-x.true (w.kept-is ∙ w.attempt-then-x.ensures)
      | else-x w ↦ rw w.if-x.false w.kept-is
    ])

pub returns : goal.returns
unfolding progress_allele
returns c = let e : c.loop-step.step ≡ 21 = omega arith in rw (c.loop-step.invariant, e, c.attempt.ensures)
