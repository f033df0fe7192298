-- `trio_stored::search::Search::all` meets its contract. The loop's invariant: offering the rows that are left gives what is held in the
-- end.
use Prim.Native.Nat.{◌+◌, ◌*◌}
use mathlib.Core.List.{[]}
use mathlib.Core.Path.{◌≡◌, subst}
use native.Mathlib.Omega.{arith}
use borrow.Author.Tests.{le-leb}
use Rattle.trio_entries.specs.Held.{held_of}
use Rattle.trio_triples.specs.Stored.{stored_score}
use Rattle.trio_stored.specs.BestOf.{best_of_all}
use Rattle.trio_stored.specs.Rows.{listed}
use Rattle.trio_stored.proofs.RowLaws.{Rows, rows_past, rows_more, rows_all, blocks_none, nothing_past, stored_fits}
use Rattle.trio_stored.proofs.search.Search.all.Goals as goal

pub loop-f-init : goal.loop-f-init
loop-f-init c =
    let a = c.args in
    let my = a.self.now in
    let lists = listed my.child.now my.father.now my.mother.now in
    let g = my.g in
    rw c.nothing-h.ensures
    (blocks_none (stored_score my.n my.rule lists) (stored_fits my.n my.rule lists) 0 (g * g) g (held_of [])
    (nothing_past (0 + g * (g * g))))

pub offer_row-h-requires : goal.offer_row-h-requires
offer_row-h-requires c =
    let s = c.loop-f in
    let a = c.args in
    let my = a.self.now in
    let lists = listed my.child.now my.father.now my.mother.now in
    let g = my.g in (
      omega (arith, s.invariant.within, c.loop-f-test.true),
      rows_past (stored_score my.n my.rule lists) (stored_fits my.n my.rule lists) (g * g) g s.h s.f
          c.loop-f-test.true
          s.invariant,
    )

pub loop-f-preserved : goal.loop-f-preserved
loop-f-preserved c =
    let s = c.loop-f in
    let a = c.args in
    let my = a.self.now in
    let lists = listed my.child.now my.father.now my.mother.now in
    let g = my.g in
    rows_more (stored_score my.n my.rule lists) (stored_fits my.n my.rule lists) (g * g) g s.h c.offer_row-h.result s.f
    c.loop-f-test.true s.invariant c.offer_row-h.ensures

pub returns : goal.returns
unfolding best_of_all
returns c =
    let s = c.loop-f in
    let a = c.args in
    let my = a.self.now in
    let lists = listed my.child.now my.father.now my.mother.now in
    let g = my.g in
    let score = stored_score my.n my.rule lists in
    let fit = stored_fits my.n my.rule lists in
    let none : s.f ≡ 0 = omega arith in
    rw (le-leb 1 my.n my.sized.0, le-leb my.n 8 my.sized.1, ← my.sized.2)
    (rows_all score fit (g * g) g s.h (subst (Rows score fit (g * g) g s.h) none s.invariant))
