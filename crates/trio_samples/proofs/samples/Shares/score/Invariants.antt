-- `trio_samples::samples::Shares::score` meets its contract. The loop's invariant: the running sum, carried through the clusters left, is
-- the score.
use mathlib.Core.Path.{◌≡◌}
use mathlib.Core.List.{map}
use Prim.Native.Nat.{◌-◌}
use Rattle.floats.specs.F64.{sum_from}
use Rattle.lists.specs.Lists.{numbers}
use Rattle.trio_samples.specs.Samples.{logged_term, logged_score}
use Rattle.trio_samples.proofs.samples.Shares.score.Given as goal

abbrev pub invariant-loop-c : goal.invariant-loop-c
invariant-loop-c l =
    sum_from l.log_lik (map (logged_term l.self.n l.counts l.logs l.fn.s l.self.pair) (numbers l.c (l.c-end - l.c))) ≡
    logged_score l.self.n l.counts l.logs l.fn.s l.self.pair
