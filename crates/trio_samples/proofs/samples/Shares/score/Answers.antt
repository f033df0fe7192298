-- `trio_samples::samples::Shares::score` meets its contract. The loop's invariant: the running sum, carried through the clusters left, is
-- the score.
use Prim.Native.Nat.{◌<◌}
use native.Mathlib.Nat.{sub-zero}
use borrow.Author.Tests.{eq-eqb, ne_eqb}
use lib.Ieee.{neg, div, round, of_int, of_bits}
use Rattle.trio_samples.specs.Samples.{up_to_eight, logged_score}
use Rattle.trio_samples.proofs.SampleLaws.{up_next, up_done, count_at_most}
use Rattle.trio_samples.proofs.samples.Shares.score.Goals as goal

pub returns-then-total-eq0 : goal.returns-then-total-eq0
unfolding logged_score div neg of_bits
returns-then-total-eq0 c = rw (← c.column_sum-total.ensures.value, eq-eqb _ 0 c.if-total-eq0.true)

pub loop-c-init : goal.loop-c-init
unfolding logged_score round of_int of_bits
loop-c-init c = rw (sub-zero, c.in_use-c-end.ensures, ← c.column_sum-total.ensures.value, ne_eqb _ 0 c.if-total-eq0.false)

pub log_binomial-requires : goal.log_binomial-requires
log_binomial-requires c =
    let a = c.args in
    let used : c.loop-c.c < up_to_eight a.self.now.n = rw (← c.in_use-c-end.ensures) c.loop-c-test.true in
    let all = c.column_sum-total.ensures in
    (rw (c.column-column.ensures, all.value) (count_at_most a.self.now.n a.counts a.s c.loop-c.c used), all.upper_bound)

pub loop-c-preserved : goal.loop-c-preserved
loop-c-preserved c =
    let now = c.loop-c in
    rw (c.log_binomial.ensures, c.of_cluster-share.ensures, c.column-column.ensures, c.column_sum-total.ensures.value)
    (rw (up_next now.c c.in_use-c-end.result c.loop-c-test.true) at now.invariant)

pub returns : goal.returns
returns c = let now = c.loop-c in rw (up_done now.c c.in_use-c-end.result c.loop-c-test.false) at now.invariant
