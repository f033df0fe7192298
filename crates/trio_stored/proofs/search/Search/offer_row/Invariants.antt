-- `trio_stored::search::Search::offer_row` meets its contract. The loop's invariant: offering the mothers that are left gives what is held
-- in the end.
use Rattle.trio_stored.specs.Rows.{listed}
use Rattle.trio_stored.proofs.RowLaws.{Mothers}
use Rattle.trio_stored.proofs.search.Search.offer_row.Given as goal

abbrev pub invariant-loop-m : goal.invariant-loop-m
invariant-loop-m l = Mothers l.self.n l.self.rule l.f (listed l.self.child.now l.self.father.now l.self.mother.now) l.initial.h
    l.self.g l.h l.m
