-- `diploid_scores::counted::Counted::new` makes a count with its logarithm. Assumes nothing.
use lib.Ieee.{round, of_int, of_bits}
use Rattle.diploid_scores.proofs.counted.Counted.new.Goals as goal

pub invariant_of-result : goal.invariant_of-result
unfolding round of_int of_bits
invariant_of-result c = record { is = c.ln_gamma.ensures }
