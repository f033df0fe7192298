-- `trio_stored::search::largest` meets its contract. The loop's invariant: none of the scores seen is above x.
use native.Mathlib.Omega.{arith}
use mathlib.Core.Path.{◌≡◌, refl}
use lib.Ieee.{neg, div, of_bits, is_nan, fits}
use Rattle.trio_stored.proofs.TopLaws.{top_larger, top_same}
use Rattle.trio_stored.proofs.search.largest.Goals.{then-x-y, else-x-y}
use Rattle.trio_stored.proofs.search.largest.Goals as goal

pub loop-i-init : goal.loop-i-init
unfolding neg div of_bits is_nan fits
loop-i-init c =
    record {
      within = omega arith;
      number = refl;
      most = record { all_fit = c.type_inv.scores; fit = tt; most = λ k h. absurd (omega arith) };
    }

pub loop-i-preserved : goal.loop-i-preserved
loop-i-preserved c =
    let s = c.loop-i in
    let a = c.args in
    elim c.if-x-y.branch [
      | then-x-y w ↦ rw w.x-is (top_larger a.scores.now a.g s.i s.x s.invariant c.loop-i-test.true w.if-x-y.true)
      | else-x-y w ↦ rw w.x-is (top_same a.scores.now a.g s.i s.x s.invariant c.loop-i-test.true w.if-x-y.false)
    ]

pub returns : goal.returns
returns c =
    let s = c.loop-i in
    let e : s.i ≡ c.args.g = omega (arith, s.invariant.within) in
    rw e at s.invariant.most
