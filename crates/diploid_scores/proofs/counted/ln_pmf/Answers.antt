-- `diploid_scores::counted::ln_pmf` meets its contract: the difference of the log factorials is the coefficient. Assumes nothing.
use Rattle.diploid_scores.proofs.Factorials.{choose_by_factorials}
use Rattle.diploid_scores.proofs.counted.ln_pmf.Goals as goal

pub returns : goal.returns
returns c =
    let a = c.args in
    rw (
      c.ln_pmf_by.ensures,
      choose_by_factorials a.k.count a.rest.count a.n.count c.requires.0 c.requires.1 a.k.is a.rest.is a.n.is,
    )
