-- `diploid_scores::phased::either_way` meets its contract: its steps are the definition's. Assumes nothing.
use Rattle.diploid_scores.specs.Scores.{either_way}
use Rattle.diploid_scores.proofs.phased.either_way.Goals as goal

pub returns : goal.returns
unfolding either_way
returns c = rw (c.ln.ensures, c.exp.ensures, c.exp-2.ensures, c.max-max_het.ensures)
