-- `diploid_scores::unphased::Drawn::bino_score` meets its contract: its steps are the definition's. Assumes nothing.
use Rattle.diploid_scores.specs.Scores.{bino_score}
use Rattle.diploid_scores.proofs.unphased.Drawn.bino_score.Goals as goal

pub returns : goal.returns
unfolding bino_score
returns c = rw (c.with_prior.ensures, c.ln_pmf_by-likelihood.ensures, c.args.self.is)
