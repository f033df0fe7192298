-- `trio_stored::search::Search::offer_row` meets its contract. The loop's invariant: offering the mothers that are left gives what is held
-- in the end.
use Prim.Native.Nat.{◌-◌, ◌*◌, ◌<◌}
use mathlib.Core.Path.{◌≡◌, sym, subst}
use native.Mathlib.Omega.{arith}
use borrow.Author.Rules.{rules}
use lib.Dec.{T}
use lib.Ieee.{of_bits}
use Rattle.trio_triples.specs.Stored.{stored_score}
use Rattle.trio_stored.specs.Rows.{listed}
use Rattle.trio_stored.proofs.RowLaws.{Mothers, blocks_none, blocks_all, block_past, mother_skipped, mother_offered, stored_fits}
use Rattle.trio_stored.proofs.RowLaws.{number_in, square_small, rows_small, mothers_small}
use Rattle.trio_stored.proofs.search.Search.offer_row.Goals as goal

pub loop-m-init : goal.loop-m-init
loop-m-init c =
    let a = c.args in
    let my = a.self.now in
    let lists = listed my.child.now my.father.now my.mother.now in
    blocks_none (stored_score my.n my.rule lists) (stored_fits my.n my.rule lists) (a.f * (my.g * my.g)) my.g my.g a.held c.requires.1

pub bounds-self-f : goal.bounds-self-f
bounds-self-f c =
    let my = c.args.self.now in
    omega (arith, my.sized.3, c.requires.0)

pub bounds-self-m : goal.bounds-self-m
bounds-self-m c =
    let my = c.args.self.now in
    let small = my.sized.3 in
    let next : c.loop-m.m - 1 < my.g = omega (arith, c.loop-m.invariant.within, c.loop-m-test.true) in
    omega arith

pub loop-m-preserved-then-base-self : goal.loop-m-preserved-then-base-self
unfolding of_bits
loop-m-preserved-then-base-self c =
    let a = c.args in
    let my = a.self.now in
    let p = c.requires in
    let s = c.loop-m in
    mother_skipped my.n my.rule a.f (listed my.child.now my.father.now my.mother.now) a.held s.h s.m c.loop-m-test.true my.g my.top
    my.sized.2 my.highest
    s.invariant
    (subst T (sym (rw c.to_pass.ensures at c.if-base-self.true)) tt)

pub overflow_mul-at : goal.overflow_mul-at
overflow_mul-at c =
    let a = c.args in
    let my = a.self.now in
    let few = my.sized.3 in
    let next : c.loop-m.m - 1 < my.g = omega (arith, c.loop-m.invariant.within, c.loop-m-test.true) in
    record { fits = omega (arith, square_small my.g a.f (c.loop-m.m - 1) few c.requires.0 next) }

pub overflow_mul-at-else-base-self : goal.overflow_mul-at-else-base-self
overflow_mul-at-else-base-self c =
    let a = c.args in
    let my = a.self.now in
    let few = my.sized.3 in
    let next : c.loop-m.m - 1 < my.g = omega (arith, c.loop-m.invariant.within, c.loop-m-test.true) in
    record { fits = omega (arith, rows_small my.g a.f (c.loop-m.m - 1) few c.requires.0 next) }

pub overflow_mul-at-else-base-self-2 : goal.overflow_mul-at-else-base-self-2
overflow_mul-at-else-base-self-2 c =
    let a = c.args in
    let my = a.self.now in
    let few = my.sized.3 in
    let next : c.loop-m.m - 1 < my.g = omega (arith, c.loop-m.invariant.within, c.loop-m-test.true) in
    record { fits = omega (arith, mothers_small my.g a.f (c.loop-m.m - 1) few c.requires.0 next) }

pub overflow_add-at : goal.overflow_add-at
overflow_add-at c =
    let a = c.args in
    let my = a.self.now in
    let few = my.sized.3 in
    let next : c.loop-m.m - 1 < my.g = omega (arith, c.loop-m.invariant.within, c.loop-m-test.true) in
    let rows = rows_small my.g a.f (c.loop-m.m - 1) few c.requires.0 next in
    let mothers = mothers_small my.g a.f (c.loop-m.m - 1) few c.requires.0 next in
    record { fits = omega (arith, rows, mothers) }

pub family-h-requires : goal.family-h-requires
family-h-requires c =
    let a = c.args in
    let my = a.self.now in
    let p = c.requires in
    let s = c.loop-m in
    let lists = listed my.child.now my.father.now my.mother.now in
    let few = my.sized.3 in
    let next : s.m - 1 < my.g = omega (arith, s.invariant.within, c.loop-m-test.true) in
    let rows = rows_small my.g a.f (s.m - 1) few c.requires.0 next in
    let mothers = mothers_small my.g a.f (s.m - 1) few c.requires.0 next in
    let own = number_in my.n my.g a.f c.genotype_at-own.result my.sized.1 my.sized.2 c.requires.0 c.genotype_at-own.ensures in
    let other = number_in my.n my.g (s.m - 1) c.genotype_at-other.result my.sized.1 my.sized.2 next c.genotype_at-other.ensures in
    let past = block_past (stored_score my.n my.rule lists) (stored_fits my.n my.rule lists) (a.f * (my.g * my.g))
    my.g my.g
    a.held s.h s.m c.loop-m-test.true s.invariant in record {
      n_bound = (own, other);
      g_bound = (omega (arith, few, rows, mothers), past);
    }

pub loop-m-preserved : goal.loop-m-preserved
loop-m-preserved c =
    let a = c.args in
    let my = a.self.now in
    let s = c.loop-m in
    mother_offered my.n my.rule a.f (listed my.child.now my.father.now my.mother.now) a.held s.h s.m c.loop-m-test.true my.g
    c.genotype_at-own.result
    c.genotype_at-other.result c.family-h.result my.sized.2 c.genotype_at-own.ensures c.genotype_at-other.ensures s.invariant
    c.family-h.ensures

pub returns : goal.returns
returns c =
    let s = c.loop-m in
    let a = c.args in
    let my = a.self.now in
    let lists = listed my.child.now my.father.now my.mother.now in
    let none : s.m ≡ 0 = omega arith in
    blocks_all (stored_score my.n my.rule lists) (stored_fits my.n my.rule lists) (a.f * (my.g * my.g)) my.g
    my.g a.held s.h
    (subst (Mothers my.n my.rule a.f lists a.held my.g s.h) none s.invariant)

pub offset_bounds-self-f : goal.offset_bounds-self-f
offset_bounds-self-f c =
    let my = c.args.self.now in
    let small = my.sized.3 in search rules

pub offset_bounds-self-m : goal.offset_bounds-self-m
offset_bounds-self-m c =
    let my = c.args.self.now in
    let small = my.sized.3 in
    let next : c.loop-m.m - 1 < my.g = omega (arith, c.loop-m.invariant.within, c.loop-m-test.true) in
    search rules
