-- `trio_stored::search::Search::next` meets its contract.
use mathlib.Core.Path.{sym, subst}
use lib.Dec.{T}
use Rattle.trio_stored.specs.Walk.{even_score}
use Rattle.trio_stored.proofs.FourLaws.{next_low, next_offered, next_none, even_fits, even_score-is}
use Rattle.trio_stored.proofs.search.Search.next.Goals as goal

pub returns-then-score-to_pass : goal.returns-then-score-to_pass
returns-then-score-to_pass c =
    let a = c.args in
    let my = a.self.now in
    let is = even_score-is my.child.now a.term a.base a.at a.k in
    next_low (even_score my.child.now a.term a.base a.at) (even_fits my.child.now a.term a.base a.at) a.at a.k a.last a.held
    c.if-k-last.true c.requires.3 (subst T (sym (rw (c.to_pass.ensures, is) at c.if-score-to_pass.true)) tt)

pub returns-then-k-last : goal.returns-then-k-last
returns-then-k-last c =
    let a = c.args in
    let my = a.self.now in
    let is = even_score-is my.child.now a.term a.base a.at a.k in
    next_offered (even_score my.child.now a.term a.base a.at) (even_fits my.child.now a.term a.base a.at) a.at a.k a.last a.held
    c.offer.result c.if-k-last.true (rw is at c.offer.ensures)

pub returns : goal.returns
returns c =
    let a = c.args in
    let my = a.self.now in
    next_none (even_score my.child.now a.term a.base a.at) (even_fits my.child.now a.term a.base a.at) a.at a.k a.last a.held
    c.if-k-last.false c.requires.3
