-- `mosaic::genotype::handed` meets its contract. Assumes nothing.
use lib.Ieee.{of_int, of_bits}
use Rattle.mosaic.proofs.genotype.handed.Goals as goal

pub returns-in-Err : goal.returns-in-Err
unfolding of_int of_bits
returns-in-Err c = rw c.in-Err.is
