-- `mosaic_candidates::hypothesis::Hypothesis::mass` meets its contract. Assumes nothing.
use Rattle.std.proofs.Common.{arith, ◌≡◌, ◌∙◌, ap, refl, length}
use lib.Ieee.{of_int, of_bits}
use Rattle.mosaic_candidates.specs.Shares.{mass_over}
use Rattle.mosaic_candidates.proofs.ShareLaws.{mass_over-is}
use Rattle.mosaic_candidates.proofs.hypothesis.Hypothesis.mass.Goals as goal

pub loop-i-init : goal.loop-i-init
unfolding of_int of_bits
loop-i-init c = refl

pub returns : goal.returns
returns c =
    let s = c.args.self.now in
    let e : c.loop-i.i ≡ length s.counts.now = omega arith in
    c.loop-i.invariant ∙ ap (mass_over s.counts.now s.pair c.args.vafs.now) e ∙ mass_over-is s.counts.now s.pair c.args.vafs.now
