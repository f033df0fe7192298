-- `trio_search::shape::Marked::has_row_of` meets its contract. The shift is the division that the definition names, and a row past the last
-- has no mark.
use Prim.Native.Nat.{◌*◌, ◌/◌}
use borrow.Author.Rules.{rules}
use borrow.Author.Tests.{le-ltb}
use Rattle.trio_search.specs.Marks.{is_marked}
use Rattle.trio_search.proofs.MarksLaws.{unmarked_past}
use Rattle.trio_search.proofs.shape.Marked.has_row_of.Goals as goal

pub returns-then-r-self : goal.returns-then-r-self
unfolding is_marked
returns-then-r-self c = search rules

pub returns-else-r-self : goal.returns-else-r-self
returns-else-r-self c =
    let s = c.args.self in
    rw (le-ltb _ _ c.if-r-self.false) (unmarked_past s.rows s.marks (c.args.e.position / (s.rows * s.rows)) s.few.2 c.if-r-self.false)
