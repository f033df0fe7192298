-- `diploid_scores::phased::phased_scores` meets its contract: the three scores are the definition's. Assumes nothing.
use lib.Ieee.{round, of_int, of_bits}
use Rattle.diploid_scores.specs.Scores.{phased_scores}
use Rattle.diploid_scores.proofs.phased.phased_scores.Goals as goal

pub returns : goal.returns
unfolding phased_scores round of_int of_bits
returns c =
    rw (
      c.with_prior.ensures,
      c.with_prior-2.ensures,
      c.with_prior-3.ensures,
      c.ln_pmf-ll_00.ensures,
      c.either_way-ll_01.ensures,
      c.one_way.ensures,
      c.one_way-2.ensures,
      c.ln_pmf-ll_11.ensures,
      c.new-alt.ensures,
      c.new-total.ensures,
      c.new-reference.ensures,
      c.new-first.ensures,
      c.new-second.ensures,
    )
