-- `trio_samples::samples::Shares::new` meets its contract: its two shares are those of the definition.
use lib.Ieee.{round, of_bits}
use Rattle.trio_samples.specs.Samples.{expectation_total}
use Rattle.trio_samples.proofs.samples.Shares.new.Goals as goal

pub invariant_of-result : goal.invariant_of-result
unfolding expectation_total round of_bits
invariant_of-result c =
    record {
      called_share = rw (c.new.ensures, c.expected.ensures, c.expected_total-whole.ensures, c.in_use.ensures);
      other_share = rw (c.new-2.ensures, c.expected_total-whole.ensures, c.in_use.ensures);
    }
