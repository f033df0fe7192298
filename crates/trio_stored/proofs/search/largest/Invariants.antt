-- `trio_stored::search::largest` meets its contract. The loop's invariant: none of the scores seen is above x.
use Rattle.trio_stored.proofs.TopLaws.{Top}
use Rattle.trio_stored.proofs.search.largest.Given as goal

abbrev pub invariant-loop-i : goal.invariant-loop-i
invariant-loop-i l = Top l.scores l.g l.x l.i
