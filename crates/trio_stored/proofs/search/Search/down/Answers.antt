-- `trio_stored::search::Search::down` meets its contract. The loop's invariant: offering the children that are left gives what is held in
-- the end.
use Prim.Native.Nat.{◌-◌}
use mathlib.Core.Path.{◌≡◌, subst}
use native.Mathlib.Omega.{arith}
use borrow.Author.Rules.{rules}
use lib.ListN.{get_or}
use lib.Ieee.{nan, binary64}
use lib.Ieee.Fits.{add-fits}
use Rattle.floats.specs.F64.{◌⊕◌}
use Rattle.trio_stored.specs.Walk.{block_score}
use Rattle.trio_stored.proofs.WalkLaws.{Falling, falling_none, falling_same, falling_more, falling_all, child_score}
use Rattle.trio_stored.proofs.search.Search.down.Goals as goal

pub loop-p-init : goal.loop-p-init
loop-p-init c =
    let a = c.args in
    let my = a.self.now in
    falling_none (block_score my.child.now a.terms.now a.base a.at) a.at my.g a.held c.to_pass-least.result c.requires.1
    c.to_pass-least.ensures

pub bounds-self-p : goal.bounds-self-p
bounds-self-p c = let h = c.loop-p.invariant.within in search rules

pub bounds-terms-p : goal.bounds-terms-p
bounds-terms-p c = let h = c.loop-p.invariant.within in search rules

pub loop-p-preserved-then-score-least : goal.loop-p-preserved-then-score-least
loop-p-preserved-then-score-least c =
    let s = c.loop-p in
    let a = c.args in
    let my = a.self.now in
    let next = s.p - 1 in
    let left = a.base ⊕ get_or my.child.now next nan in
    let term = get_or a.terms.now next nan in
    falling_same (block_score my.child.now a.terms.now a.base a.at) a.at my.g a.held s.h s.least s.p (left ⊕ term) c.loop-p-test.true
    s.invariant (child_score my.child.now a.terms.now a.base a.at next) (add-fits binary64 left term)
    c.if-score-least.true

pub overflow_add-at : goal.overflow_add-at
overflow_add-at c = let h = c.loop-p.invariant.within in search rules

pub loop-p-preserved : goal.loop-p-preserved
loop-p-preserved c =
    let s = c.loop-p in
    let a = c.args in
    let my = a.self.now in
    let next = s.p - 1 in
    let left = a.base ⊕ get_or my.child.now next nan in
    let term = get_or a.terms.now next nan in
    falling_more (block_score my.child.now a.terms.now a.base a.at) a.at my.g a.held s.h s.least s.p (left ⊕ term) c.loop-p-test.true
    s.invariant (child_score my.child.now a.terms.now a.base a.at next) (add-fits binary64 left term)
    c.offer-h.result c.to_pass-least-else-score-least.result c.offer-h.ensures c.to_pass-least-else-score-least.ensures

pub returns : goal.returns
returns c =
    let s = c.loop-p in
    let a = c.args in
    let my = a.self.now in
    let scored = block_score my.child.now a.terms.now a.base a.at in
    let none : s.p ≡ 0 = omega arith in
    falling_all scored a.at my.g a.held s.h s.least (subst (Falling scored a.at my.g a.held s.h s.least) none s.invariant)
