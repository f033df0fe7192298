-- `trio_samples::samples::Shares::of_cluster` meets its contract. By whether the genotype names the cluster.
use mathlib.Core.Bool.{or-true}
use mathlib.Core.Path.{◌≡◌, ◌∙◌}
use mathlib.Core.Bool.{true, false}
use borrow.Author.Tests.{eq-eqb, ne_eqb}
use Rattle.trio_samples.specs.Samples.{named, expectation_total}
use Rattle.trio_samples.proofs.SampleLaws.{share_by_kind}
use Rattle.trio_samples.proofs.samples.Shares.of_cluster.Goals.{then-c-self-via-then-c-self, then-c-self-via-else-c-self+then-c-self-2}
use Rattle.trio_samples.proofs.samples.Shares.of_cluster.Goals as goal

pub returns-then-c-self : goal.returns-then-c-self
returns-then-c-self c =
    let s = c.args.self.now in
    let by : named s.pair c.args.c ≡ true = elim c.then-c-self.branch [
      | then-c-self-via-then-c-self w ↦ rw (eq-eqb _ _ w.if-c-self.true)
      | then-c-self-via-else-c-self+then-c-self-2 w ↦ rw (eq-eqb _ _ w.if-c-self-2.true, or-true)
    ] in
    s.called_share ∙ share_by_kind s.pair c.args.c (expectation_total s.n s.pair) true by

pub returns : goal.returns
returns c =
    let s = c.args.self.now in
    let by : named s.pair c.args.c ≡ false = rw (ne_eqb _ _ c.if-c-self.false, ne_eqb _ _ c.if-c-self-2.false) in
    s.other_share ∙ share_by_kind s.pair c.args.c (expectation_total s.n s.pair) false by
