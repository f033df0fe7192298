-- `trio_triples::genotypes::triple_of` meets its contract.
use native.Mathlib.Omega.{arith}
use borrow.Author.Tests.{le-leb, lt-leb}
use Rattle.trio_triples.specs.Genotypes.{triple_at, triple_of}
use Rattle.trio_triples.proofs.GenotypesLaws.{sized}
use Rattle.trio_triples.proofs.genotypes.triple_of.Goals.{then-n-lt1-via-then-n-lt1, then-n-lt1-via-else-n-lt1+then-n-gt8}
use Rattle.trio_triples.proofs.genotypes.triple_of.Goals as goal

pub returns-then-n-lt1 : goal.returns-then-n-lt1
unfolding triple_of
returns-then-n-lt1 c =
    let n = c.args.n in
    elim c.then-n-lt1.branch [
      | then-n-lt1-via-then-n-lt1 w ↦ rw (lt-leb 1 n w.if-n-lt1.true)
      | then-n-lt1-via-else-n-lt1+then-n-gt8 w ↦ rw (le-leb 1 n w.if-n-lt1.false, lt-leb n 8 w.if-n-gt8.true)
    ]

pub overflow_mul-g : goal.overflow_mul-g
overflow_mul-g c =
    let s = sized _ _ c.if-n-lt1.false c.if-n-gt8.false c.genotype_count-g.ensures in
    record { fits = omega (arith, s.square_few) }

pub nonzero_div-position : goal.nonzero_div-position
nonzero_div-position c = (sized _ _ c.if-n-lt1.false c.if-n-gt8.false c.genotype_count-g.ensures).square_some

pub nonzero_div-position-2 : goal.nonzero_div-position-2
nonzero_div-position-2 c = (sized _ _ c.if-n-lt1.false c.if-n-gt8.false c.genotype_count-g.ensures).some

pub nonzero_rem-position : goal.nonzero_rem-position
nonzero_rem-position c = (sized _ _ c.if-n-lt1.false c.if-n-gt8.false c.genotype_count-g.ensures).some

pub nonzero_rem-position-2 : goal.nonzero_rem-position-2
nonzero_rem-position-2 c = (sized _ _ c.if-n-lt1.false c.if-n-gt8.false c.genotype_count-g.ensures).some

pub returns : goal.returns
unfolding triple_of triple_at
returns c =
    rw (le-leb 1 c.args.n c.if-n-lt1.false, le-leb c.args.n 8 c.if-n-gt8.false, ← c.genotype_count-g.ensures)
    (rw (c.genotype_at-child.ensures, c.genotype_at-mother.ensures, c.genotype_at-father.ensures))
