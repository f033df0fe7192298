-- `diploid_scores::unphased::Drawn::beta_binomial_ln_pmf` meets its contract: its steps are the definition's. Assumes nothing.
use Rattle.diploid_scores.specs.Scores.{beta_ln_pmf}
use Rattle.diploid_scores.proofs.unphased.Drawn.beta_binomial_ln_pmf.Goals as goal

pub returns : goal.returns
unfolding beta_ln_pmf
returns c =
    rw (
      c.ln_gamma.ensures,
      c.ln_gamma-2.ensures,
      c.ln_gamma-3.ensures,
      c.ln_gamma-4.ensures,
      c.ln_gamma-5.ensures,
      c.ln_gamma-6.ensures,
      c.args.self.is,
    )
