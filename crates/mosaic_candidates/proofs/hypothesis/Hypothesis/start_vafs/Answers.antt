-- `mosaic_candidates::hypothesis::Hypothesis::start_vafs` meets its contract. Assumes nothing.
use Rattle.std.proofs.Common.{rules, tests, ℕ, ◌∙◌, length, cond}
use lib.Ieee.{round, of_int, of_bits}
use Rattle.floats.specs.F64.{nat, decimal}
use Rattle.lists.proofs.FromFnLaws.{from_fn_is}
use Rattle.mosaic_alleles.specs.Alleles.{somatic_in}
use Rattle.mosaic_alleles.proofs.Beyond.{not_somatic, eight_placed}
use Rattle.mosaic_candidates.specs.Shares.{start_vafs}
use Rattle.mosaic_candidates.proofs.hypothesis.Hypothesis.start_vafs.Goals as goal

pub returns : goal.returns
unfolding start_vafs round of_int of_bits
returns c =
    let s = c.args.self.now in
    let vaf = λ (i : ℕ). cond (somatic_in s.counts.now s.pair i) (decimal 5 2) (nat 0) in
    from_fn_is _ vaf _ c.from_fn.result (λ k y q i r. search (rules, tests)) 8 c.from_fn.ensures.items
    ∙ eight_placed vaf (nat 0) (length s.counts.now) (λ i h. rw (not_somatic s.counts.now s.pair i h))
