-- `diploid::genotype::called` meets its contract: each call gives what the definition names. Assumes nothing.
use Rattle.diploid.specs.Genotype.{called}
use Rattle.diploid.proofs.genotype.called.Goals as goal

pub returns : goal.returns
unfolding called
returns c = rw (c.calibrate_gq.ensures, c.best_state.ensures, c.genotype_quals-quals.ensures)
