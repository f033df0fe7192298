-- `trio_samples::scores::fill_scores` meets its contract. The loop's invariant: the first k places of each list have their scores, the
-- others are zero.
use Prim.Native.Nat.{◌≤◌}
use Rattle.trio_family.specs.declared.sample.Sample.TheVariants.{Child, Father, Mother}
use Rattle.trio_samples.proofs.ScoresLaws.{Filled}
use Rattle.trio_samples.proofs.scores.fill_scores.Given as goal

abbrev pub invariant-loop-k : goal.invariant-loop-k
invariant-loop-k l = record {
  few : l.k-end ≤ 36;
  child : Filled l.n l.counts l.logs Child l.k l.scores.child;
  father : Filled l.n l.counts l.logs Father l.k l.scores.father;
  mother : Filled l.n l.counts l.logs Mother l.k l.scores.mother;
}
