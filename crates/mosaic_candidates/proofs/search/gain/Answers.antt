-- `mosaic_candidates::search::gain` meets its contract: each return is one case of the definition. Assumes nothing.
use lib.Ieee.{round, of_int, of_bits}
use Rattle.mosaic_candidates.specs.Shares.{gain_by}
use Rattle.mosaic_candidates.proofs.search.gain.Goals as goal

pub returns-then-vaf : goal.returns-then-vaf
unfolding gain_by round of_int of_bits
returns-then-vaf c = rw c.if-vaf.true

pub returns-then-vaf-2 : goal.returns-then-vaf-2
unfolding gain_by of_int of_bits
returns-then-vaf-2 c =
    rw (
      c.if-vaf.false,
      c.if-vaf-2.true,
      c.ln.ensures,
      c.ln-then-vaf-2.ensures,
    )

pub returns : goal.returns
unfolding gain_by of_int of_bits
returns c = rw (c.if-vaf.false, c.if-vaf-2.false)
