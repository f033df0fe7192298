-- `diploid_scores::phased::one_way` meets its contract: the code tells no remaining reads apart as the definition does. Assumes nothing.
use Rattle.std.proofs.Common.{◌≡◌, ◌∙◌, sym, ◌+◌, true, false, eqb}
use borrow.Author.Tests.{eq-eqb, ne_eqb}
use lib.Ieee.{round, of_int, of_bits}
use Rattle.diploid_scores.specs.Scores.{one_way}
use Rattle.diploid_scores.proofs.phased.one_way.Goals as goal

pub returns-then-remaining-eq0 : goal.returns-then-remaining-eq0
unfolding one_way round of_int of_bits
returns-then-remaining-eq0 c =
    let a = c.args in
    let none : eqb (a.reference.count + a.this.count) 0 ≡ true = eq-eqb _ 0 (sym c.new-remaining.ensures ∙ c.if-remaining-eq0.true) in
    rw (c.ln_pmf-first.ensures, none)

pub returns : goal.returns
unfolding one_way round of_int of_bits
returns c =
    let a = c.args in
    let some : eqb (a.reference.count + a.this.count) 0 ≡ false =
    ne_eqb _ 0 (λ e. c.if-remaining-eq0.false (c.new-remaining.ensures ∙ e)) in
    rw (c.ln_pmf-first.ensures, c.ln_pmf.ensures, c.new-remaining.ensures, some)
