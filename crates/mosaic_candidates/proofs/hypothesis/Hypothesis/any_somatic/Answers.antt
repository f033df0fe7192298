-- `mosaic_candidates::hypothesis::Hypothesis::any_somatic` meets its contract. Assumes nothing.
use Rattle.std.proofs.Common.{rules, tests, arith, ◌∙◌, length}
use Rattle.std.proofs.lemmas.Iterator.{YieldsList-from_range}
use Rattle.std.proofs.lemmas.Iterator.Search.{any_from_yields_List}
use Rattle.mosaic_alleles.specs.Alleles.{somatic_in}
use Rattle.mosaic_candidates.proofs.ShareLaws.{any_is_some}
use Rattle.mosaic_candidates.proofs.hypothesis.Hypothesis.any_somatic.Goals as goal

pub returns : goal.returns
returns c =
    let s = c.args.self.now in
    let test = somatic_in s.counts.now s.pair in
    let n = length s.counts.now in
    any_from_yields_List test _ _ c.any.result c.any.ensures.ran (YieldsList-from_range 0 n n (search rules) (omega arith))
    (λ x b q k. search (rules, tests))
    ∙ any_is_some test 0 n
