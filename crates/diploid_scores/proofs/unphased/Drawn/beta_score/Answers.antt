-- `diploid_scores::unphased::Drawn::beta_score` meets its contract: its steps are the definition's. Assumes nothing.
use lib.Ieee.{round, of_int, of_bits}
use Rattle.diploid_scores.specs.Scores.{beta_score}
use Rattle.diploid_scores.proofs.unphased.Drawn.beta_score.Goals as goal

pub returns : goal.returns
unfolding beta_score round of_int of_bits
returns c = rw (c.with_prior.ensures, c.beta_binomial_ln_pmf-likelihood.ensures)
