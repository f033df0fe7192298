-- `trio_search::shape::Marked::held_count` meets its contract. By whether there is a mark, and whether there is one row.
use mathlib.Core.Path.{sym}
use native.Mathlib.Omega.{arith}
use Rattle.trio_search.proofs.CountLaws.{held_none, held_one, held_two}
use Rattle.trio_search.proofs.shape.Marked.held_count.Goals as goal

pub returns-in-0-default : goal.returns-in-0-default
returns-in-0-default c = rw c.in-0-default.is-0 (sym (held_none c.args.self.rows))

pub returns-in_default-eq1 : goal.returns-in_default-eq1
returns-in_default-eq1 c =
    let one = c.in_default-eq1.is-1 in
    rw one (sym (held_one c.args.self.marks (rw one at c.args.self.few.2) c.in_default-eq1.is-0.1))

pub returns-in_default : goal.returns-in_default
returns-in_default c =
    let s = c.args.self in
    sym (held_two s.rows s.marks (omega (arith, s.few.0, c.in_default.is-1)) s.few.2 c.in_default.is-0.1)
