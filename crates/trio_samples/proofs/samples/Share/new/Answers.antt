-- `trio_samples::samples::Share::new` meets its contract: its logarithms are those of the definition.
use lib.Ieee.{round, of_int, of_bits}
use Rattle.trio_samples.proofs.samples.Share.new.Goals as goal

pub invariant_of-result : goal.invariant_of-result
unfolding round of_int of_bits
invariant_of-result c = record { logs = (c.ln.ensures, c.ln-2.ensures) }
