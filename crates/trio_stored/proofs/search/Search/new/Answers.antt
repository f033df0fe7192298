-- `trio_stored::search::Search::new` meets its contract: it has at most 36 genotypes.
use borrow.Author.Rules.{rules}
use Rattle.trio_stored.proofs.PlacesLaws.{few_genotypes}
use Rattle.trio_stored.proofs.search.Search.new.Goals as goal

pub largest-requires : goal.largest-requires
largest-requires c = let few = few_genotypes c.args.n c.genotype_count-g.result c.requires.1 c.genotype_count-g.ensures in search rules

pub invariant_of-result : goal.invariant_of-result
invariant_of-result c =
    let few = few_genotypes c.args.n c.genotype_count-g.result c.requires.1 c.genotype_count-g.ensures in
    record { sized = (c.requires.0, c.requires.1, c.genotype_count-g.ensures, few); highest = c.largest.ensures }
