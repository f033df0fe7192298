-- `mosaic_candidates::hypothesis::Hypothesis::prior` meets its contract. Assumes nothing.
use Rattle.std.proofs.Common.{arith, ◌≡◌, ◌∙◌, cond, refl, length}
use lib.Ieee.{of_int, of_bits}
use Rattle.mosaic_alleles.specs.Alleles.{alone}
use Rattle.mosaic_candidates.specs.Progress.{prior_by}
use Rattle.mosaic_candidates.proofs.hypothesis.Hypothesis.prior.Goals.{then-is_alone, else-is_alone}
use Rattle.mosaic_candidates.proofs.hypothesis.Hypothesis.prior.Goals as goal

pub loop-i-init : goal.loop-i-init
unfolding of_int of_bits
loop-i-init c = refl

pub returns : goal.returns
unfolding prior_by
returns c =
    let s = c.args.self.now in
    let e : c.loop-i.i ≡ length s.counts.now = omega arith in
    let germline : c.if-is_alone.result ≡ cond (alone s.pair) s.shared.now.for_one s.shared.now.for_two =
    elim c.if-is_alone.branch [
      | then-is_alone w ↦ w.result-is ∙ rw (← c.is_alone.ensures, w.if-is_alone.true)
      | else-is_alone w ↦ w.result-is ∙ rw (← c.is_alone.ensures, w.if-is_alone.false)
    ] in
    rw (c.loop-i.invariant, e, germline)
