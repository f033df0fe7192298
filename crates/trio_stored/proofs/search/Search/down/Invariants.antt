-- `trio_stored::search::Search::down` meets its contract. The loop's invariant: offering the children that are left gives what is held in
-- the end.
use Rattle.trio_stored.specs.Walk.{block_score}
use Rattle.trio_stored.proofs.WalkLaws.{Falling}
use Rattle.trio_stored.proofs.search.Search.down.Given as goal

abbrev pub invariant-loop-p : goal.invariant-loop-p
invariant-loop-p l = Falling (block_score l.self.child.now l.terms l.base l.at) l.at l.self.g l.initial.h l.h l.least l.p
