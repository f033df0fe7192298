-- `trio_opening::opening::opening_allowed` meets its contract. By each test in turn. Behind the first two tests no answer goes by their
-- names, so that where an edit moves one of them the goal that is then false is what refuses it.
use Prim.Native.Nat.{◌*◌}
use mathlib.Core.Path.{sym, ◌∙◌}
use borrow.Author.Tests.{eq-eqb, ne_eqb, lt-ltb, le-ltb}
use borrow.Author.Rules.{rules}
use native.Mathlib.Omega.{arith}
use lib.Ieee.{round, of_int, of_bits}
use lib.ListN.{length}
use Rattle.trio_parts.specs.Part.{weight_allowed}
use Rattle.trio_opening.specs.Opening.{opening_allowed}
use Rattle.trio_opening.proofs.opening.opening_allowed.Goals as goal

pub returns-then-n-eq0 : goal.returns-then-n-eq0
unfolding opening_allowed
returns-then-n-eq0 c = rw (eq-eqb c.args.n 0 (search rules))

pub returns-then-n-gt8 : goal.returns-then-n-gt8
unfolding opening_allowed
returns-then-n-gt8 c = rw (ne_eqb c.args.n 0 (search rules), lt-ltb 8 c.args.n (omega arith))

pub returns-then-counts-n : goal.returns-then-counts-n
unfolding opening_allowed
returns-then-counts-n c =
    let a = c.args in
    rw (
      ne_eqb c.args.n 0 (search rules),
      le-ltb 8 c.args.n (omega arith),
      ne_eqb (length a.counts.now) (3 * a.n) c.if-counts-n.true,
    )

pub returns-then-weights-n : goal.returns-then-weights-n
unfolding opening_allowed
returns-then-weights-n c =
    let a = c.args in
    rw (
      ne_eqb c.args.n 0 (search rules),
      le-ltb 8 c.args.n (omega arith),
      eq-eqb (length c.args.counts.now) (3 * c.args.n) c.if-counts-n.false,
      ne_eqb (length a.weights.now) a.n c.if-weights-n.true,
    )

pub returns-then-not-counts_allowed : goal.returns-then-not-counts_allowed
unfolding opening_allowed
returns-then-not-counts_allowed c =
    let counts = c.counts_allowed in
    rw (
      ne_eqb c.args.n 0 (search rules),
      le-ltb 8 c.args.n (omega arith),
      eq-eqb (length c.args.counts.now) (3 * c.args.n) c.if-counts-n.false,
      eq-eqb (length c.args.weights.now) c.args.n c.if-weights-n.false,
      sym counts.ensures ∙ c.if-not-counts_allowed.true,
    )

pub returns-then-not-all_in : goal.returns-then-not-all_in
unfolding opening_allowed weight_allowed round of_int of_bits
returns-then-not-all_in c =
    let weights = c.all_in in
    rw (
      ne_eqb c.args.n 0 (search rules),
      le-ltb 8 c.args.n (omega arith),
      eq-eqb (length c.args.counts.now) (3 * c.args.n) c.if-counts-n.false,
      eq-eqb (length c.args.weights.now) c.args.n c.if-weights-n.false,
      sym c.counts_allowed.ensures ∙ c.if-not-counts_allowed.false,
      sym weights.ensures ∙ c.if-not-all_in.true,
    )

pub returns-then-not-rule_allowed : goal.returns-then-not-rule_allowed
unfolding opening_allowed weight_allowed round of_int of_bits
returns-then-not-rule_allowed c =
    let rule = c.rule_allowed in
    rw (
      ne_eqb c.args.n 0 (search rules),
      le-ltb 8 c.args.n (omega arith),
      eq-eqb (length c.args.counts.now) (3 * c.args.n) c.if-counts-n.false,
      eq-eqb (length c.args.weights.now) c.args.n c.if-weights-n.false,
      sym c.counts_allowed.ensures ∙ c.if-not-counts_allowed.false,
      sym c.all_in.ensures ∙ c.if-not-all_in.false,
      sym rule.ensures ∙ c.if-not-rule_allowed.true,
    )

pub returns : goal.returns
unfolding opening_allowed weight_allowed round of_int of_bits
returns c =
    let rule = c.rule_allowed in
    rw (
      ne_eqb c.args.n 0 (search rules),
      le-ltb 8 c.args.n (omega arith),
      eq-eqb (length c.args.counts.now) (3 * c.args.n) c.if-counts-n.false,
      eq-eqb (length c.args.weights.now) c.args.n c.if-weights-n.false,
      sym c.counts_allowed.ensures ∙ c.if-not-counts_allowed.false,
      sym c.all_in.ensures ∙ c.if-not-all_in.false,
      sym rule.ensures ∙ c.if-not-rule_allowed.false,
    )
