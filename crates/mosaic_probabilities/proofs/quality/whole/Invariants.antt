-- The loops' invariants: what is left of the list decides. Assumes nothing.
use mathlib.Core.Path.{◌≡◌}
use mathlib.Core.List.{map}
use lib.ListN.{drop}
use lib.Ieee.{Float}
use Rattle.floats.specs.F64.{◌⊖◌, sum_from}
use Rattle.floats.specs.MaxMin.{larger}
use Rattle.kernels_tens.specs.Log10.{pow10_of}
use Rattle.kernels_tens.specs.Normalised.{in_tens, largest_from}
use Rattle.mosaic_probabilities.proofs.quality.whole.Given as goal

abbrev pub invariant-loop-x : goal.invariant-loop-x
invariant-loop-x l = largest_from larger l.largest (map in_tens (drop l.x-index l.rest)) ≡ largest_from larger l.start (map in_tens l.rest)

abbrev pub invariant-loop-x-2 : goal.invariant-loop-x-2
invariant-loop-x-2 l =
    let power = λ (x : Float). pow10_of (in_tens x ⊖ l.largest) in
    sum_from l.sum (map power (drop l.x-index l.rest)) ≡ sum_from (pow10_of (l.start ⊖ l.largest)) (map power l.rest)
