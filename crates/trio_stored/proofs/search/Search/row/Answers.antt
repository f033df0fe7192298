-- `trio_stored::search::Search::row` meets its contract: what falls from nothing is what one pass keeps.
use Prim.Native.Nat.{◌*◌}
use mathlib.Core.List.{[]}
use mathlib.Core.Path.{◌≡◌, ap, ◌∙◌}
use borrow.Author.Tests.{le-leb, lt-ltb, le-ltb}
use Rattle.trio_entries.specs.Held.{held_of}
use Rattle.trio_triples.specs.Stored.{stored_score}
use Rattle.trio_stored.specs.BestOf.{best_of_row}
use Rattle.trio_stored.specs.Rows.{listed}
use Rattle.trio_stored.specs.Walk.{fallen}
use Rattle.trio_stored.proofs.FallLaws.{fallen_pass}
use Rattle.trio_stored.proofs.RowLaws.{nothing_past}
use Rattle.trio_stored.proofs.search.Search.row.Goals as goal

pub returns-then-self-r : goal.returns-then-self-r
unfolding best_of_row
returns-then-self-r c =
    let a = c.args in
    let my = a.self.now in
    rw (le-leb 1 my.n my.sized.0, le-leb my.n 8 my.sized.1, ← my.sized.2, le-ltb a.r my.g c.if-self-r.true) c.nothing.ensures

pub offer_row-requires : goal.offer_row-requires
offer_row-requires c = (c.if-self-r.false, rw c.nothing-2.ensures (nothing_past _))

pub returns : goal.returns
unfolding best_of_row
returns c =
    let a = c.args in
    let my = a.self.now in
    let score = stored_score my.n my.rule (listed my.child.now my.father.now my.mother.now) in
    let r : c.offer_row.result ≡ held_of (fallen score (a.r * (my.g * my.g)) (my.g * my.g) []) = rw c.nothing-2.ensures at
    c.offer_row.ensures in
    rw (le-leb 1 my.n my.sized.0, le-leb my.n 8 my.sized.1, ← my.sized.2, lt-ltb a.r my.g c.if-self-r.false)
    (r ∙ ap held_of (fallen_pass score (a.r * (my.g * my.g)) (my.g * my.g)))
