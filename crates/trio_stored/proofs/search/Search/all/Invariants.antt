-- `trio_stored::search::Search::all` meets its contract. The loop's invariant: offering the rows that are left gives what is held in the
-- end.
use Prim.Native.Nat.{◌*◌}
use Rattle.trio_triples.specs.Stored.{stored_score}
use Rattle.trio_stored.specs.Rows.{listed}
use Rattle.trio_stored.proofs.RowLaws.{Rows, stored_fits}
use Rattle.trio_stored.proofs.search.Search.all.Given as goal

abbrev pub invariant-loop-f : goal.invariant-loop-f
invariant-loop-f l =
    let s = listed l.self.child.now l.self.father.now l.self.mother.now in
    Rows (stored_score l.self.n l.self.rule s) (stored_fits l.self.n l.self.rule s) (l.self.g * l.self.g) l.self.g l.h l.f
