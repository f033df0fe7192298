-- `trio_stored::search::to_pass` meets its contract.
use borrow.Author.Tests.{ne_eqb}
use lib.Ieee.{div, of_bits}
use Rattle.trio_stored.specs.Walk.{to_pass}
use Rattle.trio_stored.proofs.search.to_pass.Goals as goal

pub returns : goal.returns
unfolding to_pass div of_bits
returns c = rw (ne_eqb c.args.h.count 2 c.if-h-eq2.false)
